-- Tables of which some keys are dropped for good, and what they join to.
use Rattle.std.specs.Prelude.{ℕ, Bool, not, ◌||◌, List, filter}
use Rattle.std.specs.declared.cmp.Ordering.{Ordering}
use Rattle.fed_lattice.specs.Table.{joined_tables}

-- the entries whose keys are not dropped
abbrev pub dropped : {K X : Type 0} → (K → Bool) → List (K × X) → List (K × X)
dropped gone es = filter (λ e. not (gone e.0)) es

-- the keys that are dropped in one of both
abbrev pub either : {K : Type 0} → (K → Bool) → (K → Bool) → K → Bool
either g h k = g k || h k

module _ {K X : Type 0} (cmp : K → K → Ordering) (bottom : X) (joined : X → List ℕ → X → List ℕ → X) where
  -- what two tables join to, beside the keys that are dropped in each: what is dropped in one is in neither
  abbrev pub joined_dropping : (K → Bool) → List (K × X) → List ℕ → (K → Bool) → List (K × X) → List ℕ → List (K × X)
  joined_dropping g x v h y w = dropped (either g h) (joined_tables cmp bottom joined x v y w)
