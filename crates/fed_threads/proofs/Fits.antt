-- What it comes to that the claims of all seats fit, and why a federation is not closed.
use Rattle.std.proofs.Common.{◌≡◌, ℕ, zero, suc, List, [], ◌∷◌, length, replicate, Option, Some, None, Ok, Err, Result, IfErr, sym, subst}
use Rattle.std.specs.List.{slice_get}
use Rattle.std.specs.Result.{IsErrAnd}
use Rattle.std.proofs.lemmas.List.{length-replicate}
use Rattle.fed_threads.specs.declared.fault.CloseFault.{CloseFault}
use Rattle.fed_threads.specs.declared.fault.CloseFault.TheVariants.{Strange, Twice, Unclaimed, NoOrder, Differs, NoMemory}
use Rattle.fed_threads.specs.declared.journal.Entry.{Entry}
use Rattle.fed_threads.specs.declared.seat.Seat.{Seat}
use Rattle.fed_threads.specs.Settle.{AllFit, AllHold, AllKeepEvents, FitsAt, IsCloseFault, IsCloseFaultOf, KeepsEventsIf, claims_in}

keep_if : (journals : List (List Entry)) (seat : Option Seat) → ((place : ℕ) → FitsAt journals seat place) → KeepsEventsIf journals seat
keep_if journals None fit = tt
keep_if journals (Some s) fit = λ place. (fit place).1

pub all_keep : (journals : List (List Entry)) (seats : List Seat) → AllFit journals seats → AllKeepEvents journals seats
all_keep journals seats fit = λ number. keep_if journals (slice_get seats number) (fit number)

all_hold : (journals : List (List Entry)) (seats : List Seat) → AllFit journals seats → AllHold journals (claims_in seats)
all_hold journals [] fit number place = tt
all_hold journals (s ∷ seats) fit zero place = (fit zero place).0
all_hold journals (s ∷ seats) fit (suc number) place = all_hold journals seats (λ n. fit (suc n)) number place

-- where all fit, a fault of the journals and the claims is one of the journals and the seats
fault_of : (journals : List (List Entry)) (seats : List Seat) (fault : CloseFault) → AllFit journals seats
    → IsCloseFault journals (claims_in seats) fault
    → IsCloseFaultOf journals seats fault
fault_of journals seats (Strange seat place) fit is = absurd (is.fails (all_hold journals seats fit seat place))
fault_of journals seats (Twice site index) fit is = (fit, is)
fault_of journals seats (Unclaimed site index) fit is = (fit, is)
fault_of journals seats (NoOrder next) fit is = (fit, is)
fault_of journals seats (Differs k) fit is = (fit, is)
fault_of journals seats NoMemory fit is = tt

-- there are so many journals that have the fault
abbrev HaveFault : ℕ → List Seat → CloseFault → Type 0
HaveFault count seats fault = (journals : List (List Entry)) × (length journals ≡ count) × IsCloseFaultOf journals seats fault

with_fault : {T : Type 0} (r : Result T CloseFault) (count : ℕ) (seats : List Seat) (fault : CloseFault) → HaveFault count seats fault
    → IsErrAnd r (λ e. e ≡ fault)
    → IfErr r (λ e. HaveFault count seats e)
with_fault (Ok v) count seats fault has is = tt
with_fault (Err e) count seats fault has is = subst (HaveFault count seats) (sym is) has

pub without_memory : {T : Type 0} (r : Result T CloseFault) (count : ℕ) (seats : List Seat) → IsErrAnd r (λ e. e ≡ NoMemory)
    → IfErr r (λ e. HaveFault count seats e)
without_memory r count seats is = with_fault r count seats NoMemory (replicate count [], length-replicate count [], tt) is

pub not_settled : {T : Type 0} (r : Result T CloseFault) (count : ℕ) (journals : List (List Entry)) (seats : List Seat) (fault : CloseFault)
    → length journals ≡ count
    → AllFit journals seats
    → IsCloseFault journals (claims_in seats) fault
    → IsErrAnd r (λ e. e ≡ fault)
    → IfErr r (λ e. HaveFault count seats e)
not_settled r count journals seats fault many fit has is =
    with_fault r count seats fault (journals, many, fault_of journals seats fault fit has) is
