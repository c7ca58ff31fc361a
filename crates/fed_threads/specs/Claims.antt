-- Which claims of the seats fit the journals.
use Rattle.std.specs.Prelude.{◌≡◌, ◌<◌, ◌≤◌, ◌⊎◌, ℕ, List, [], length, slice_index_or, Option, Some, None}
use Rattle.std.specs.List.{slice_get, sum_by, count_by}
use Rattle.fed_model.specs.declared.outcomes.Outcome.{Outcome}
use Rattle.fed_threads.specs.declared.journal.Claim.{Claim}
use Rattle.fed_threads.specs.declared.journal.Entry.{Entry}
use Rattle.fed_threads.specs.Placing.{entry_at, is_claim_of}

abbrev pub HasOutcome : Option Entry → Outcome → Type 0
HasOutcome None outcome = ⊥
HasOutcome (Some e) outcome = e.outcome ≡ outcome

-- the entry that a claim names is in the journal, with its outcome
abbrev pub ClaimHolds : List (List Entry) → Claim → Type 0
ClaimHolds journals c = HasOutcome (entry_at journals c.site c.index) c.outcome

abbrev pub HoldsIfAny : List (List Entry) → Option Claim → Type 0
HoldsIfAny journals None = Unit {0}
HoldsIfAny journals (Some c) = ClaimHolds journals c

-- the claim at this place of this seat holds, if there is one
abbrev pub HoldsThere : List (List Entry) → List (List Claim) → ℕ → ℕ → Type 0
HoldsThere journals seats seat place = HoldsIfAny journals (slice_get (slice_index_or seats seat []) place)

-- how often the seats claim an entry
abbrev pub times_claimed : List (List Claim) → ℕ → ℕ → ℕ
times_claimed seats site index = sum_by (λ (claims : List Claim). count_by (is_claim_of site index) claims) seats

-- an entry of the journals is claimed once at most, and once at least
abbrev pub OnceAtMost : List (List Entry) → List (List Claim) → ℕ → ℕ → Type 0
OnceAtMost journals seats site index =
    index < length (slice_index_or journals site []) → times_claimed seats site index ≤ 1

abbrev pub OnceAtLeast : List (List Entry) → List (List Claim) → ℕ → ℕ → Type 0
OnceAtLeast journals seats site index =
    index < length (slice_index_or journals site []) → 1 ≤ times_claimed seats site index

-- compared by the first number, and then by the second
abbrev pub Earlier : ℕ → ℕ → ℕ → ℕ → Type 0
Earlier c d a b = (c < a) ⊎ ((c ≡ a) × (d < b))

-- the least pair of numbers at which a fact does not hold
pub record FailsFirst (Good : ℕ → ℕ → Type 0) (a b : ℕ) : Type 0 where
  pub fails : Good a b → ⊥
  pub before : (c d : ℕ) → Earlier c d a b → Good c d
