-- Where each seat stands while entries are placed: what contracts of inner calls cite alone.
use Rattle.std.specs.Prelude.{◌≡◌, ◌<◌, ◌+◌, ◌^◌, ℕ, List, [], length, slice_index, slice_index_or, Bool, true, false, nat_lt, Option, Some, None}
use Rattle.std.specs.List.{slice_get}
use Rattle.fed_threads.specs.declared.journal.Claim.{Claim}
use Rattle.fed_threads.specs.declared.journal.Entry.{Entry}
use Rattle.fed_threads.specs.Placing.{is_claim_of, is_placed, is_ready}

abbrev pub is_claim_if : ℕ → ℕ → Option Claim → Bool
is_claim_if site index None = false
is_claim_if site index (Some c) = is_claim_of site index c

-- the first claims of the seat, so many as its cursor says, are placed, and the others are not
abbrev pub IsPlacedBelow : List ℕ → ℕ → ℕ → Option Claim → Type 0
IsPlacedBelow placed cursor place None = Unit {0}
IsPlacedBelow placed cursor place (Some c) = is_placed placed c.site c.index ≡ nat_lt place cursor

abbrev pub AreCursors : List (List Claim) → List ℕ → List ℕ → Type 0
AreCursors seats placed cursors = (seat place : ℕ) →
    IsPlacedBelow placed (slice_index cursors seat) place (slice_get (slice_index_or seats seat []) place)

-- the next entry of the site may be placed, and is the next that the seat claims
pub record IsNextOf (journals : List (List Entry)) (seats : List (List Claim)) (placed cursors : List ℕ)
    (site seat : ℕ) : Type 0 where
  pub ready : is_ready journals seats placed site ≡ true
  pub claims : is_claim_if site (slice_index placed site)
      (slice_get (slice_index_or seats seat []) (slice_index cursors seat)) ≡ true
  pub site_fits : slice_index placed site + 1 < 2 ^ 64
  pub seat_fits : slice_index cursors seat + 1 < 2 ^ 64

-- and no site below it is ready
pub record IsLeastNext (journals : List (List Entry)) (seats : List (List Claim)) (placed cursors : List ℕ)
    (site seat : ℕ) : Type 0 where
  pub next : IsNextOf journals seats placed cursors site seat
  pub inside : site < length journals
  pub least : (s : ℕ) → s < site → is_ready journals seats placed s ≡ false
