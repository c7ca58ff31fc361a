-- The table of who claims each entry: what contracts of inner calls cite alone.
use Rattle.std.specs.Prelude.{◌≡◌, ◌<◌, ◌≤◌, ℕ, List, [], length, map, slice_index_or, Option, Some, None}
use Rattle.std.specs.Global.{Vec}
use Rattle.std.specs.List.{slice_get, count_by}
use Rattle.fed_threads.specs.declared.claims.Claimant.{Claimant}
use Rattle.fed_threads.specs.declared.claims.Times.{Times}
use Rattle.fed_threads.specs.declared.claims.Times.TheVariants.{Never, Once, Often}
use Rattle.fed_threads.specs.declared.journal.Claim.{Claim}
use Rattle.fed_threads.specs.declared.journal.Entry.{Entry}
use Rattle.fed_threads.specs.Placing.{is_claim_of}
use Rattle.fed_threads.specs.Claims.{times_claimed}

-- how often, as it is told of a number
abbrev pub IsTimes : Times → ℕ → Type 0
IsTimes Never n = n ≡ 0
IsTimes Once n = n ≡ 1
IsTimes Often n = 2 ≤ n

-- how often the seats claim an entry, and where they do at all, a seat that does
pub record IsClaimant (seats : List (List Claim)) (site index : ℕ) (c : Claimant) : Type 0 where
  pub times : IsTimes c.times (times_claimed seats site index)
  pub claims : 1 ≤ times_claimed seats site index →
      1 ≤ count_by (is_claim_of site index) (slice_index_or seats c.seat [])

abbrev pub IsClaimantIf : List (List Claim) → ℕ → ℕ → Option Claimant → Type 0
IsClaimantIf seats site index None = ⊥
IsClaimantIf seats site index (Some c) = IsClaimant seats site index c

-- of each of so many entries of a site
pub record AreClaimantsOf (seats : List (List Claim)) (site count : ℕ) (row : List Claimant) : Type 0 where
  pub count_is : length row ≡ count
  pub claimants : (index : ℕ) → index < count → IsClaimantIf seats site index (slice_get row index)

-- the table as the program holds it
abbrev pub rows_of : List (Vec Claimant) → List (List Claimant)
rows_of rows = map (λ (v : Vec Claimant). v.items) rows

-- of each entry of the journals
pub record AreClaimants (journals : List (List Entry)) (seats : List (List Claim)) (rows : List (List Claimant)) :
    Type 0 where
  pub count_is : length rows ≡ length journals
  pub of_site : (site : ℕ) → site < length journals →
      AreClaimantsOf seats site (length (slice_index_or journals site [])) (slice_index_or rows site [])

-- an entry of the table is not claimed so often
abbrev pub IsNot : Times → Option Claimant → Type 0
IsNot times None = Unit {0}
IsNot times (Some c) = c.times ≡ times → ⊥

abbrev pub IsNotThere : Times → List (List Claimant) → ℕ → ℕ → Type 0
IsNotThere times rows site index = IsNot times (slice_get (slice_index_or rows site []) index)

abbrev pub seat_if : Option Claimant → Option ℕ
seat_if None = None
seat_if (Some c) = Some c.seat

-- the seat that the table tells of an entry
abbrev pub seat_at : List (List Claimant) → ℕ → ℕ → Option ℕ
seat_at rows site index = seat_if (slice_get (slice_index_or rows site []) index)
