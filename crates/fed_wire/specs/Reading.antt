-- Reading a packet: the packet, or the first fault in the order of the checks.
use Rattle.std.specs.Prelude.{ℕ, suc, Bool, true, false, ◌==◌, ◌&&◌, is_some, List, [], ◌∷◌, ◌++◌, length, codes, nat_le, if◌then◌else◌, Option, Some, None, option_and_then, Result, Ok, Err}
use Rattle.std.specs.Str.{is_utf8}
use Rattle.std.specs.Map.{keys_of}
use Rattle.serde_json.specs.Data.{Data, array}
use Rattle.serde_json.specs.Read.{read}
use Rattle.serde_json.specs.Find.{get, as_number, as_u64}
use Rattle.fed_stamp.specs.declared.stamps.TheConstants.{MAX_COUNTER}
use Rattle.fed_lattice.specs.Results.{◌>>=◌}
use Rattle.fed_ranges.specs.Retired.{RetiredValue}
use Rattle.fed_json.specs.declared.flaws.Flaw.TheVariants.{Shape as Misshapen, Range as OutOfRange}
use Rattle.fed_json.specs.Reading.{Reading, where_true}
use Rattle.fed_json.specs.Numbers.{natural_in}
use Rattle.fed_json.specs.Values.{elements_of, list_of}
use Rattle.fed_json.specs.Objects.{has_names}
use Rattle.fed_job_json.specs.declared.formats.Format.{Format}
use Rattle.fed_job_json.specs.declared.formats.Format.TheVariants.{One, Two}
use Rattle.fed_job_json.specs.Stamps.{site_of, version_of}
use Rattle.fed_job_json.specs.Job.{Job, job_of}
use Rattle.fed_parts_json.specs.Retirements.{retirements_of}
use Rattle.fed_wire.specs.declared.faults.Part.{Part}
use Rattle.fed_wire.specs.declared.faults.Part.TheVariants.{Whole, Sender, Need, Reached, Jobs, Reservations, Retired}
use Rattle.fed_wire.specs.declared.faults.Place.{Place}
use Rattle.fed_wire.specs.declared.faults.WireFault.{WireFault}
use Rattle.fed_wire.specs.declared.faults.WireFault.TheVariants.{NotJson, Version, Shape, Range}
use Rattle.fed_wire.specs.Reservations.{Reserved, reservation_of}
use Rattle.fed_wire.specs.Packet.{job_stands, reservation_stands, site_stands}
use Rattle.fed_delta.specs.Packet.{PacketValue}

abbrev pub place : Part → ℕ → Place
place part index = record { part = part; index = index }

abbrev pub or_fault : {A : Type 0} → WireFault → Option A → Result A WireFault
or_fault fault (Some x) = Ok x
or_fault fault None = Err fault

-- what is read, with the places of both faults
abbrev pub at : {A : Type 0} → Place → Place → Reading A → Result A WireFault
at shape range (Ok x) = Ok x
at shape range (Err Misshapen) = Err (Shape shape)
at shape range (Err OutOfRange) = Err (Range range)

-- the elements one after another, each where it may stand after those before it
abbrev pub each_in : {A : Type 0} → Part → (Data → Reading A) → (List A → A → Bool) → List A → List Data → Result (List A) WireFault
each_in part read stands before [] = Ok before
each_in part read stands before (d ∷ ds) =
    let here : Place = place part (length before) in
    at here here (read d >>= where_true (stands before)) >>= λ x. each_in part read stands (before ++ x ∷ []) ds

abbrev pub array_in : {A : Type 0} → Part → (Data → Reading A) → (List A → A → Bool) → Data → Result (List A) WireFault
array_in part read stands d = at (place part 0) (place part 0) (elements_of d) >>= each_in part read stands []

abbrev pub is_good : {A : Type 0} → Reading A → Bool
is_good (Ok x) = true
is_good (Err e) = false

-- the place of the first that isn't a counter
abbrev pub first_bad : ℕ → List Data → ℕ
first_bad site [] = site
first_bad site (d ∷ ds) = if is_good (natural_in 0 MAX_COUNTER d) then first_bad (suc site) ds else site

abbrev pub first_bad_in : Data → ℕ
first_bad_in (array ds) = first_bad 0 (list_of ds)
first_bad_in _ = 0

abbrev pub version_in : Part → Data → Result (List ℕ) WireFault
version_in part d = at (place part 0) (place part (first_bad_in d)) (version_of d)

-- the least site, from the one given, at which the first list is above the second
abbrev pub least_above : ℕ → List ℕ → List ℕ → Option ℕ
least_above site (a ∷ first) (b ∷ second) = if nat_le a b then least_above (suc site) first second else Some site
least_above site (a ∷ first) [] = if nat_le a 0 then least_above (suc site) first [] else Some site
least_above site [] second = None

abbrev pub unless_above : Option ℕ → Result (Option ℕ) WireFault
unless_above None = Ok None
unless_above (Some site) = Err (Range (place Need site))

abbrev pub member_in : List ℕ → Data → Result Data WireFault
member_in name d = or_fault (Shape (place Whole 0)) (get name d)

abbrev pub sender_in : Data → Result ℕ WireFault
sender_in d = member_in (codes "sender") d >>= λ v. at (place Sender 0) (place Sender 0) (site_of v)

abbrev pub need_in : Data → Result (List ℕ) WireFault
need_in d = member_in (codes "need") d >>= version_in Need

abbrev pub reached_in : Data → Result (List ℕ) WireFault
reached_in d = member_in (codes "reached") d >>= version_in Reached

abbrev pub jobs_in : Format → List ℕ → Data → Result (List Job) WireFault
jobs_in format reached d = member_in (codes "jobs") d >>= array_in Jobs (job_of format) (job_stands reached)

abbrev pub reservations_in : List ℕ → Data → Result (List Reserved) WireFault
reservations_in reached d = member_in (codes "reservations") d >>= array_in Reservations reservation_of (reservation_stands reached)

-- there is something to tell: a packet in which nothing is retired has another format
abbrev pub some_retired : RetiredValue → Result RetiredValue WireFault
some_retired [] = Err (Range (place Retired 0))
some_retired (r ∷ rs) = Ok (r ∷ rs)

abbrev pub all_retired : List ℕ → List Job → List Reserved → Data → Result RetiredValue WireFault
all_retired reached jobs reservations d = array_in Retired retirements_of (site_stands reached (keys_of jobs) (keys_of reservations)) d >>= some_retired

-- of the member that there may be
abbrev pub retired_from : Option Data → List ℕ → List Job → List Reserved → Result RetiredValue WireFault
retired_from None reached jobs reservations = Ok []
retired_from (Some d) reached jobs reservations = all_retired reached jobs reservations d

-- where what is retired is said, it is a member
abbrev pub retired_in : Bool → List ℕ → List Job → List Reserved → Data → Result RetiredValue WireFault
retired_in false reached jobs reservations d = Ok []
retired_in true reached jobs reservations d = member_in (codes "retired") d >>= all_retired reached jobs reservations

unfoldable pub body_in : Format → Bool → Data → Result PacketValue WireFault
body_in format told d = do
  sender ← sender_in d
  need ← need_in d
  reached ← reached_in d
  below ← unless_above (least_above 0 need reached)
  jobs ← jobs_in format reached d
  reservations ← reservations_in reached d
  retired ← retired_in told reached jobs reservations d
  Ok (record { sender = sender; delta = record { need = need; changes = record { version = reached; retired = retired; jobs = jobs; reservations = reservations } } })

-- how jobs are said, and whether what is retired is: 3 is the number of a format only of a text that has that member
abbrev pub format_from : Bool → ℕ → Result (Format × Bool) WireFault
format_from told n = if n == 1 then Ok (One, false) else (if n == 2 then Ok (Two, false) else (if (n == 3) && told then Ok (Two, true) else Err (Version n)))

abbrev pub format_in : Data → Result (Format × Bool) WireFault
format_in d = or_fault (Shape (place Whole 0)) (option_and_then as_u64 (option_and_then as_number (get (codes "format") d))) >>= format_from (is_some (get (codes "retired") d))

abbrev pub packet_names : Bool → List (List ℕ)
packet_names false = codes "format" ∷ codes "jobs" ∷ codes "need" ∷ codes "reached" ∷ codes "reservations" ∷ codes "sender" ∷ []
packet_names true = codes "format" ∷ codes "jobs" ∷ codes "need" ∷ codes "reached" ∷ codes "reservations" ∷ codes "retired" ∷ codes "sender" ∷ []

unfoldable pub packet_of : Data → Result PacketValue WireFault
packet_of d = do
  said ← format_in d
  if has_names (packet_names said.1) d then body_in said.0 said.1 d else Err (Shape (place Whole 0))

-- the JSON value that the bytes are read as
abbrev pub text_value : List ℕ → Option Data
text_value bytes = if is_utf8 bytes then read bytes else None

abbrev pub packet_in : List ℕ → Result PacketValue WireFault
packet_in bytes = or_fault NotJson (text_value bytes) >>= packet_of
