-- What the journals and the claims come to.
use Rattle.std.specs.Prelude.{◌≡◌, ◌<◌, ◌≤◌, ◌∷◌, ℕ, List, [], map, take, length, slice_index, slice_index_or, Option, Some, None}
use Rattle.std.specs.List.{slice_get}
use Rattle.fed_model.specs.View.{view}
use Rattle.fed_model.specs.declared.events.Event.{Event}
use Rattle.fed_model.specs.declared.outcomes.Outcome.{Outcome}
use Rattle.fed_world.specs.Kept.{WorldValue}
use Rattle.fed_model.specs.Run.{World, outcomes}
use Rattle.fed_threads.specs.declared.fault.CloseFault.{CloseFault}
use Rattle.fed_threads.specs.declared.fault.CloseFault.TheVariants.{Strange, Twice, Unclaimed, NoOrder, Differs, NoMemory}
use Rattle.fed_threads.specs.declared.journal.Asked.{Asked}
use Rattle.fed_threads.specs.declared.journal.Claim.{Claim}
use Rattle.fed_threads.specs.declared.journal.Entry.{Entry}
use Rattle.fed_threads.specs.declared.seat.Seat.{Seat}
use Rattle.fed_threads.specs.Claims.{HasOutcome, HoldsIfAny, HoldsThere, OnceAtMost, OnceAtLeast, FailsFirst}
use Rattle.fed_threads.specs.Placing.{entry_at, is_ready, none_placed, placed_after, with_next, IsPlacing}
use Rattle.fed_replica.specs.State.{empty_at}
use Rattle.fed_threads.specs.Replay.{replay_from}
use Rattle.fed_threads.specs.Settled.{starts, shown, AllAgree, NextAgrees, point_after}

-- no entry is left out
abbrev pub IsWhole : List (List Entry) → List ℕ → Type 0
IsWhole journals placed = (s : ℕ) → s < length journals → slice_index placed s ≡ length (slice_index_or journals s [])

-- each claim is of an entry with its outcome, and each entry is claimed just once
pub record AreClaimed (journals : List (List Entry)) (seats : List (List Claim)) : Type 0 where
  pub hold : (seat place : ℕ) → HoldsThere journals seats seat place
  pub once_at_most : (site index : ℕ) → OnceAtMost journals seats site index
  pub once_at_least : (site index : ℕ) → OnceAtLeast journals seats site index

-- the events are the placing of all entries, each of which is as the run has it there, and each is claimed just once
pub record IsSettled (journals : List (List Entry)) (seats : List (List Claim)) (events : List Event) : Type 0 where
  pub claimed : AreClaimed journals seats
  pub sites : List ℕ
  pub placing : IsPlacing (is_ready journals seats) (none_placed journals) sites
  pub whole : IsWhole journals (placed_after (none_placed journals) sites)
  pub agree : AllAgree journals (starts journals) sites
  pub events_are : events ≡ (point_after journals (starts journals) sites).events

-- the entries of the order have these outcomes, one after the other
abbrev pub AnswersAre : List (List Entry) → List ℕ → List ℕ → List Outcome → Type 0
AnswersAre journals placed [] [] = Unit {0}
AnswersAre journals placed (s ∷ sites) (outcome ∷ outcomes) =
    HasOutcome (entry_at journals s (slice_index placed s)) (shown (slice_index placed s) outcome) ×
    AnswersAre journals (with_next placed s) sites outcomes
AnswersAre journals placed _ _ = ⊥

-- in the placing of the entries, each has the outcome that the run of the events has there
abbrev pub HasItsOutcomes : List (List Entry) → List (List Claim) → List Event → Type 0
HasItsOutcomes journals seats events = (sites : List ℕ) × IsPlacing (is_ready journals seats) (none_placed journals) sites ×
    AnswersAre journals (none_placed journals) sites (outcomes (length journals) events)

-- the set of each site is read as the replay of its journal
abbrev pub AreReplays : List (List Entry) → World → Type 0
AreReplays journals w = (s : ℕ) → s < length journals →
    view (w.site s).set ≡ (replay_from (empty_at s) (slice_index_or journals s [])).view

-- ---- faults

-- the placing leaves entries out, and has so many of each site
pub record HasNoOrder (journals : List (List Entry)) (seats : List (List Claim)) (next : List ℕ) : Type 0 where
  pub sites : List ℕ
  pub placing : IsPlacing (is_ready journals seats) (none_placed journals) sites
  pub part : IsWhole journals (placed_after (none_placed journals) sites) → ⊥
  pub numbers : (s : ℕ) → s < length journals → slice_index next s ≡ slice_index (placed_after (none_placed journals) sites) s
  pub others : (s : ℕ) → length journals ≤ s → slice_index next s ≡ 0

-- the entry at this place of the order is the first that differs
pub record DiffersFirst (journals : List (List Entry)) (sites : List ℕ) (k : ℕ) : Type 0 where
  pub inside : k < length sites
  pub before : AllAgree journals (starts journals) (take k sites)
  pub differs : NextAgrees journals (point_after journals (starts journals) (take k sites)) (slice_index sites k) → ⊥

-- each entry of the order agrees, and the world is that of their events
pub record RunsAll (journals : List (List Entry)) (sites : List ℕ) (w : WorldValue) : Type 0 where
  pub agree : AllAgree journals (starts journals) sites
  pub world : w ≡ record { sites = length journals; events = (point_after journals (starts journals) sites).events }

-- why the entries of an order are not run: one differs, or memory was refused
abbrev pub IsRunFault : List (List Entry) → List ℕ → CloseFault → Type 0
IsRunFault journals sites (Strange seat place) = ⊥
IsRunFault journals sites (Twice site index) = ⊥
IsRunFault journals sites (Unclaimed site index) = ⊥
IsRunFault journals sites (NoOrder next) = ⊥
IsRunFault journals sites (Differs k) = DiffersFirst journals sites k
IsRunFault journals sites NoMemory = Unit {0}

-- the placing has all entries, and the one at this place of it is the first that differs
pub record DiffersAtPlace (journals : List (List Entry)) (seats : List (List Claim)) (k : ℕ) : Type 0 where
  pub sites : List ℕ
  pub placing : IsPlacing (is_ready journals seats) (none_placed journals) sites
  pub whole : IsWhole journals (placed_after (none_placed journals) sites)
  pub differs : DiffersFirst journals sites k

-- each claim holds
abbrev pub AllHold : List (List Entry) → List (List Claim) → Type 0
AllHold journals seats = (seat place : ℕ) → HoldsThere journals seats seat place

abbrev pub AllOnceAtMost : List (List Entry) → List (List Claim) → Type 0
AllOnceAtMost journals seats = (site index : ℕ) → OnceAtMost journals seats site index

-- why the entries are not settled: the first of these that is so
abbrev pub IsCloseFault : List (List Entry) → List (List Claim) → CloseFault → Type 0
IsCloseFault journals seats (Strange seat place) = FailsFirst (HoldsThere journals seats) seat place
IsCloseFault journals seats (Twice site index) =
    AllHold journals seats × FailsFirst (OnceAtMost journals seats) site index
IsCloseFault journals seats (Unclaimed site index) =
    AllHold journals seats × AllOnceAtMost journals seats × FailsFirst (OnceAtLeast journals seats) site index
IsCloseFault journals seats (NoOrder next) = AreClaimed journals seats × HasNoOrder journals seats next
IsCloseFault journals seats (Differs k) = AreClaimed journals seats × DiffersAtPlace journals seats k
IsCloseFault journals seats NoMemory = Unit {0}

-- ---- claims with the events that seats keep

-- the entry that a claim names has the event
abbrev pub HasEvent : Option Entry → Asked → Type 0
HasEvent None asked = ⊥
HasEvent (Some e) asked = e.asked ≡ asked

abbrev pub HasEventIf : List (List Entry) → Option Claim → Option Asked → Type 0
HasEventIf journals None asked = Unit {0}
HasEventIf journals (Some c) None = ⊥
HasEventIf journals (Some c) (Some asked) = HasEvent (entry_at journals c.site c.index) asked

-- the entry that each claim of a seat names has the event that the seat keeps beside it
abbrev pub KeepsEvents : List (List Entry) → Seat → Type 0
KeepsEvents journals s = (place : ℕ) →
    HasEventIf journals (slice_get s.claims.items place) (slice_get s.asked.items place)

abbrev pub KeepsEventsIf : List (List Entry) → Option Seat → Type 0
KeepsEventsIf journals None = Unit {0}
KeepsEventsIf journals (Some s) = KeepsEvents journals s

abbrev pub AllKeepEvents : List (List Entry) → List Seat → Type 0
AllKeepEvents journals seats = (number : ℕ) → KeepsEventsIf journals (slice_get seats number)

-- the claim at this place of a seat, if there is one, is of an entry with its outcome, and with the event that the seat
-- keeps beside it
abbrev pub FitsAt : List (List Entry) → Option Seat → ℕ → Type 0
FitsAt journals None place = Unit {0}
FitsAt journals (Some s) place =
    HoldsIfAny journals (slice_get s.claims.items place) ×
    HasEventIf journals (slice_get s.claims.items place) (slice_get s.asked.items place)

-- the claim at this place of this seat fits, if there is one
abbrev pub FitsThere : List (List Entry) → List Seat → ℕ → ℕ → Type 0
FitsThere journals seats number place = FitsAt journals (slice_get seats number) place

abbrev pub AllFit : List (List Entry) → List Seat → Type 0
AllFit journals seats = (number place : ℕ) → FitsThere journals seats number place

-- the claims of seats
abbrev pub claims_in : List Seat → List (List Claim)
claims_in seats = map (λ (s : Seat). s.claims.items) seats

-- why a federation is not closed: the first of these that is so
abbrev pub IsCloseFaultOf : List (List Entry) → List Seat → CloseFault → Type 0
IsCloseFaultOf journals seats (Strange seat place) = FailsFirst (FitsThere journals seats) seat place
IsCloseFaultOf journals seats (Twice site index) =
    AllFit journals seats × IsCloseFault journals (claims_in seats) (Twice site index)
IsCloseFaultOf journals seats (Unclaimed site index) =
    AllFit journals seats × IsCloseFault journals (claims_in seats) (Unclaimed site index)
IsCloseFaultOf journals seats (NoOrder next) =
    AllFit journals seats × IsCloseFault journals (claims_in seats) (NoOrder next)
IsCloseFaultOf journals seats (Differs k) =
    AllFit journals seats × IsCloseFault journals (claims_in seats) (Differs k)
IsCloseFaultOf journals seats NoMemory = Unit {0}
