-- Packets as JSON values, and which are within limits.
use Rattle.std.specs.Prelude.{◌≡◌, ℕ, Bool, true, false, not, ◌&&◌, ◌==◌, nat_le, nat_lt, List, [], ◌∷◌, ◌++◌, codes, map, Option, Some, None}
use Rattle.std.specs.List.{AllByRecursion, list_all}
use Rattle.std.specs.Map.{keys_of}
use Rattle.serde_json.specs.Data.{Data}
use Rattle.fed_stamp.specs.Stamp.{StampValue}
use Rattle.fed_stamp.specs.Version.{counter_of, covers, is_below}
use Rattle.fed_lattice.specs.Latest.{is_before}
use Rattle.fed_ranges.specs.Ranges.{has}
use Rattle.fed_ranges.specs.Retired.{RetiredValue}
use Rattle.fed_json.specs.Numbers.{natural_value}
use Rattle.fed_json.specs.Values.{list_value}
use Rattle.fed_json.specs.Objects.{Named, object_value}
use Rattle.fed_model.specs.Reservation.{ReservationView}
use Rattle.fed_board.specs.Counts.{ids_of}
use Rattle.fed_model.specs.declared.capacities.TheConstants.{MAX_JOBS, MAX_RESERVATIONS}
use Rattle.fed_delta.specs.Packet.{PacketValue}
use Rattle.fed_job_json.specs.declared.formats.Format.{Format}
use Rattle.fed_job_json.specs.declared.formats.Format.TheVariants.{One, Two}
use Rattle.fed_job_json.specs.Stamps.{version_value, IsVersion}
use Rattle.fed_model.specs.Ranges.{IsSite}
use Rattle.fed_job_json.specs.Job.{Job, job_value, IsJob}
use Rattle.fed_parts_json.specs.Retirements.{RetiredSite, retirements_value, AreRetirements}
use Rattle.fed_wire.specs.Reservations.{Reserved, reservation_value, IsReservation}

-- something is retired
abbrev pub tells_retired : RetiredValue → Bool
tells_retired [] = false
tells_retired (r ∷ rs) = true

-- the number of a text's format, by how jobs are said and whether what is retired is
abbrev pub number_from : Format → Bool → ℕ
number_from One retired = 1
number_from Two false = 2
number_from Two true = 3

abbrev pub number_of : Format → PacketValue → ℕ
number_of format p = number_from format (tells_retired p.delta.changes.retired)

-- what is retired is a member where there is any, before the others
abbrev pub with_retired : Bool → RetiredValue → Named → Named
with_retired false rs ms = ms
with_retired true rs ms = (codes "retired", list_value (map retirements_value rs)) ∷ ms

-- the members up to the reservations, and then others
abbrev pub members_before : ℕ → Format → PacketValue → Named → Named
members_before number format p others =
    (codes "format", natural_value number) ∷
    (codes "jobs", list_value (map (job_value format) p.delta.changes.jobs)) ∷
    (codes "need", version_value p.delta.need) ∷
    (codes "reached", version_value p.delta.changes.version) ∷
    (codes "reservations", list_value (map reservation_value p.delta.changes.reservations)) ∷
    others

abbrev pub sender_member : PacketValue → Named
sender_member p = (codes "sender", natural_value p.sender) ∷ []

abbrev pub packet_members : Format → PacketValue → Named
packet_members format p =
    members_before (number_of format p) format p
    (with_retired (tells_retired p.delta.changes.retired) p.delta.changes.retired (sender_member p))

abbrev pub packet_value : Format → PacketValue → Data
packet_value format p = object_value (packet_members format p)

-- ---- limits

abbrev pub last_of : {A : Type 0} → List A → Option A
last_of [] = None
last_of (x ∷ []) = Some x
last_of (x ∷ y ∷ ys) = last_of (y ∷ ys)

-- the identifier is above the last one before it
abbrev pub follows : Option StampValue → StampValue → Bool
follows None id = true
follows (Some last) id = is_before last id

-- an identifier may stand after those before it: it is above them, and its origin has room
abbrev pub may_stand : ℕ → List StampValue → StampValue → Bool
may_stand room ids id = follows (last_of ids) id && nat_lt (ids_of id.site ids) room

abbrev pub job_stands : List ℕ → List Job → Job → Bool
job_stands reached before j = may_stand MAX_JOBS (keys_of before) j.0 && is_below j.1.touched reached

abbrev pub covers_window : List ℕ → ReservationView → Bool
covers_window reached None = true
covers_window reached (Some latest) = covers reached latest.0

abbrev pub reservation_stands : List ℕ → List Reserved → Reserved → Bool
reservation_stands reached before r = may_stand MAX_RESERVATIONS (keys_of before) r.0 && (covers reached r.0 && covers_window reached r.1)

-- the site is above the last one before it
abbrev pub is_above : Option ℕ → ℕ → Bool
is_above None site = true
is_above (Some last) site = nat_lt last site

-- the site has not retired the identifier
abbrev pub keeps : RetiredSite → StampValue → Bool
keeps r id = not ((id.site == r.0) && has r.1.ranges id.counter)

-- the site stands in its order, its latest Retire is covered, and it has retired none of the packet's jobs and
-- reservations
abbrev pub site_stands : List ℕ → List StampValue → List StampValue → List RetiredSite → RetiredSite → Bool
site_stands reached jobs reservations before r =
    is_above (last_of (keys_of before)) r.0 && (nat_le r.1.latest (counter_of reached r.0)
    && (list_all (keeps r) jobs && list_all (keeps r) reservations))

-- what is retired is said beside jobs of format 2 alone
abbrev pub MaySay : Format → RetiredValue → Type 0
MaySay One rs = rs ≡ []
MaySay Two rs = Unit {0}

-- each may stand after those before it
abbrev pub AllStand : {A : Type 0} → (List A → A → Bool) → List A → List A → Type 0
AllStand stands before [] = Unit {0}
AllStand stands before (x ∷ xs) = (stands before x ≡ true) × AllStand stands (before ++ x ∷ []) xs

-- the packet is within limits, where it is said in the format
pub record IsPacket (format : Format) (p : PacketValue) : Type 0 where
  pub sender : IsSite p.sender
  pub need : IsVersion p.delta.need
  pub reached : IsVersion p.delta.changes.version
  pub below : is_below p.delta.need p.delta.changes.version ≡ true
  pub jobs : AllByRecursion (IsJob format) p.delta.changes.jobs
  pub jobs_stand : AllStand (job_stands p.delta.changes.version) [] p.delta.changes.jobs
  pub reservations : AllByRecursion IsReservation p.delta.changes.reservations
  pub reservations_stand : AllStand (reservation_stands p.delta.changes.version) [] p.delta.changes.reservations
  pub said : MaySay format p.delta.changes.retired
  pub retired : AllByRecursion AreRetirements p.delta.changes.retired
  pub retired_stand : AllStand (site_stands p.delta.changes.version (keys_of p.delta.changes.jobs) (keys_of p.delta.changes.reservations)) [] p.delta.changes.retired
