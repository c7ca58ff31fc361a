-- What the entries of an order come to when they are run one after the other.
use Rattle.std.specs.Prelude.{◌≡◌, ◌<◌, ◌+◌, ℕ, List, [], ◌∷◌, ◌++◌, length, slice_index, Bool, ◌&&◌, ◌==◌, Option, Some, None}
use Rattle.std.specs.List.{position}
use Rattle.std.specs.Option.{option_map_or}
use Rattle.fed_delta.specs.Packet.{PacketValue}
use Rattle.fed_model.specs.Packet.{Packet}
use Rattle.fed_model.specs.declared.events.Event.{Event}
use Rattle.fed_model.specs.declared.outcomes.Outcome.{Outcome}
use Rattle.fed_world.specs.Kept.{IsSentOf}
use Rattle.fed_model.specs.Run.{World, packet, run, step}
use Rattle.fed_threads.specs.declared.journal.Asked.{Asked}
use Rattle.fed_threads.specs.declared.journal.Asked.TheVariants.{Do, Ship, Take}
use Rattle.fed_threads.specs.declared.journal.Entry.{Entry}
use Rattle.fed_threads.specs.Placing.{entry_at, with_next, none_placed}

-- how many entries of each site were run, the site and the place of each ship among them, and their events
pub record Point : Type 0 where
  pub placed : List ℕ
  pub ships : List (ℕ × ℕ)
  pub events : List Event

abbrev pub starts : List (List Entry) → Point
starts journals = record { placed = none_placed journals; ships = []; events = [] }

abbrev pub is_ship_of : ℕ → ℕ → ℕ × ℕ → Bool
is_ship_of sender place p = (p.0 == sender) && (p.1 == place)

-- the number, counted from 1, of the ship that stands at this place of the sender's journal; 0 where there is none,
-- which is no packet's number
abbrev pub number_of : List (ℕ × ℕ) → ℕ → ℕ → ℕ
number_of ships sender place = option_map_or (λ k. k + 1) (position (is_ship_of sender place) ships) 0

-- an entry as an event: a take is named by the number of its ship
abbrev pub event_of : List (ℕ × ℕ) → Asked → Event
event_of ships (Do site who command) = Event.Do site who command
event_of ships (Ship site to) = Event.Ship site to
event_of ships (Take site sender place) = Event.Take site (number_of ships sender place)

abbrev pub ships_after : List (ℕ × ℕ) → ℕ → ℕ → Asked → List (ℕ × ℕ)
ships_after ships site index (Do at who command) = ships
ships_after ships site index (Ship at to) = ships ++ (site, index) ∷ []
ships_after ships site index (Take at sender place) = ships

abbrev pub site_of : Asked → ℕ
site_of (Do site who command) = site
site_of (Ship site to) = site
site_of (Take site sender place) = site

-- a ship goes to a site of the roster
abbrev pub StaysInside : ℕ → Asked → Type 0
StaysInside count (Do site who command) = Unit {0}
StaysInside count (Ship site to) = to < count
StaysInside count (Take site sender place) = Unit {0}

-- the outcome of an entry at this index: a ship's is its own place
abbrev pub shown : ℕ → Outcome → Outcome
shown index (Outcome.Packet number) = Outcome.Packet index
shown index outcome = outcome

-- the packet is sent of the one that was made, and there is none where none was made
abbrev pub IsSentIf : Option Packet → Option PacketValue → Type 0
IsSentIf None None = Unit {0}
IsSentIf (Some p) (Some sent) = IsSentOf p sent
IsSentIf _ _ = ⊥

abbrev pub IsNone : Option PacketValue → Type 0
IsNone None = Unit {0}
IsNone (Some sent) = ⊥

-- an entry holds the packet that its event takes, and none where it takes none
abbrev pub HoldsPacket : World → Event → Option PacketValue → Type 0
HoldsPacket w (Event.Do site who command) sent = IsNone sent
HoldsPacket w (Event.Ship site to) sent = IsNone sent
HoldsPacket w (Event.Take site number) sent = IsSentIf (packet w number) sent

-- an entry of a site's journal is as the run of n sites has it at this point
pub record Agrees (n : ℕ) (p : Point) (site : ℕ) (e : Entry) : Type 0 where
  pub here : site_of e.asked ≡ site
  pub inside : StaysInside n e.asked
  pub outcome : e.outcome ≡ shown (slice_index p.placed site) (step n (run n p.events) (event_of p.ships e.asked)).outcome
  pub holds : HoldsPacket (run n p.events) (event_of p.ships e.asked) e.packet

abbrev pub AgreesIf : ℕ → Point → ℕ → Option Entry → Type 0
AgreesIf n p site None = ⊥
AgreesIf n p site (Some e) = Agrees n p site e

-- the next entry of the site agrees
abbrev pub NextAgrees : List (List Entry) → Point → ℕ → Type 0
NextAgrees journals p site = AgreesIf (length journals) p site (entry_at journals site (slice_index p.placed site))

abbrev pub with_entry : Point → ℕ → Entry → Point
with_entry p site e = record {
  placed = with_next p.placed site;
  ships = ships_after p.ships site (slice_index p.placed site) e.asked;
  events = p.events ++ event_of p.ships e.asked ∷ [];
}

abbrev pub with_entry_if : Point → ℕ → Option Entry → Point
with_entry_if p site None = p
with_entry_if p site (Some e) = with_entry p site e

-- the point after the next entry of the site
abbrev pub after_next : List (List Entry) → Point → ℕ → Point
after_next journals p site = with_entry_if p site (entry_at journals site (slice_index p.placed site))

-- the point after the next entries of these sites
abbrev pub point_after : List (List Entry) → Point → List ℕ → Point
point_after journals p [] = p
point_after journals p (s ∷ sites) = point_after journals (after_next journals p s) sites

-- each entry of the order agrees
abbrev pub AllAgree : List (List Entry) → Point → List ℕ → Type 0
AllAgree journals p [] = Unit {0}
AllAgree journals p (s ∷ sites) = NextAgrees journals p s × AllAgree journals (after_next journals p s) sites
