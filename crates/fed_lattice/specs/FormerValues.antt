-- What undoes a join of entries into a table: the keys that it added, and the values that stood at the others.
use Rattle.std.specs.Prelude.{◌≡◌, List, [], ◌∷◌, ◌++◌, Option, IsSome, MatchOption}
use Rattle.std.specs.declared.cmp.Ordering.{Ordering}
use Rattle.std.specs.BTreeMap.{is_at}
use Rattle.std.specs.Map.{keys_of, lookup}
use Rattle.fed_lattice.specs.Table.{IsTable, value_at, filled}
use Rattle.fed_lattice.specs.JoinedEntries.{without}

module _ {K X : Type 0} (cmp : K → K → Ordering) where
  -- the former values are a table, and each of their keys is in the other
  pub record AreFormer (well_formed : X → Type 0) (es former : List (K × X)) : Type 0 where
    pub table : IsTable cmp well_formed former
    pub there : (k : K) → IsSome (lookup (is_at (cmp k)) former) → IsSome (lookup (is_at (cmp k)) es)

  -- the entries, with the former values at their keys, and without the keys that were added
  abbrev pub put_back : X → List (K × X) → List (K × X) → List K → List (K × X)
  put_back bottom es former added = without cmp (filled cmp (value_at cmp bottom former) es (keys_of former)) added

-- a key where there was nothing is now among those that were added, and a value that was there among the former ones
abbrev pub IsKept : {K X : Type 0} → Option X → K → List K → List (K × X) → List K → List (K × X) → Type 0
IsKept {K} {X} before k added former added_now former_now = MatchOption before
    ((added_now ≡ added ++ k ∷ []) × (former_now ≡ former))
    (λ (x : X). (added_now ≡ added) × (former_now ≡ former ++ (k, x) ∷ []))
