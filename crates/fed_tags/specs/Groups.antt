-- Live pairs by element: entries of an element and its stamps.
use Rattle.std.specs.Prelude.{◌≡◌, ◌≢◌, ℕ, ◌<◌, ◌≤◌, List, [], Option, None, Some, length, map, flat_map}
use Rattle.std.specs.declared.cmp.Ordering.{Ordering}
use Rattle.std.specs.declared.cmp.Ordering.TheVariants.{Less, Equal, Greater}
use Rattle.std.specs.List.{HoldsAt}
use Rattle.std.specs.Borrow.{Bor}
use Rattle.std.specs.List.Sorted.{IsStrictlySortedBy, IsPartitionPoint}
use Rattle.fed_stamp.specs.Stamp.{StampValue}
use Rattle.fed_lattice.specs.Latest.{stamp_cmp}

-- the pairs of one element with its stamps
abbrev pub tagged : {T : Type 0} → T → List StampValue → List (T × StampValue)
tagged {T} t ss = map (λ (s : StampValue). (t, s)) ss

abbrev pub pairs : {T : Type 0} → List (T × List StampValue) → List (T × StampValue)
pairs {T} es = flat_map (λ (e : T × List StampValue). tagged e.0 e.1) es

-- the stamps of an element ascend, and there is one
abbrev pub IsGroup : List StampValue → Type 0
IsGroup ss = IsStrictlySortedBy stamp_cmp ss × (ss ≢ [])

-- the pairs of the element in hand that are left
abbrev pub front_pairs : {T : Type 0} → Option (T × Bor (List StampValue)) → List (T × StampValue)
front_pairs None = []
front_pairs (Some p) = tagged p.0 p.1.now

module _ {T : Type 0} (cmp : T → T → Ordering) where
  -- the place is that of the element's group
  abbrev pub IsGroupOf : List (T × List StampValue) → T → ℕ → Type 0
  IsGroupOf es t i = (i < length es) × HoldsAt (λ e. cmp e.0 t ≡ Equal) es i

  -- the element has no group, and its group would stand at the place
  abbrev pub IsGapFor : List (T × List StampValue) → T → ℕ → Type 0
  IsGapFor es t i = (i ≤ length es) × IsPartitionPoint (λ e. cmp e.0 t ≡ Less) (λ e. cmp e.0 t ≡ Greater) es i
