-- One table into which the entries of another are joined.
use Rattle.std.specs.Prelude.{ℕ, not, is_some, filter, List}
use Rattle.std.specs.declared.cmp.Ordering.{Ordering}
use Rattle.std.specs.BTreeMap.{is_at}
use Rattle.std.specs.List.{list_any}
use Rattle.std.specs.Map.{keys_of, lookup}
use Rattle.fed_lattice.specs.Table.{value_at, filled}

module _ {K X : Type 0} (cmp : K → K → Ordering) where
  -- at each key of the other table the join of the two values, and at the other keys what was there
  abbrev pub joined_entries : X → (X → List ℕ → X → List ℕ → X) →
      List (K × X) → List ℕ → List (K × X) → List ℕ → List (K × X)
  joined_entries bottom joined xs v ys w =
      filled cmp (λ k. joined (value_at cmp bottom xs k) v (value_at cmp bottom ys k) w) xs (keys_of ys)

  -- those of the keys that the table does not have
  abbrev pub missing_from : List (K × X) → List K → List K
  missing_from es ks = filter (λ k. not (is_some (lookup (is_at (cmp k)) es))) ks

  -- the entries at keys other than these
  abbrev pub without : List (K × X) → List K → List (K × X)
  without es ks = filter (λ e. not (list_any (is_at (cmp e.0)) ks)) es
