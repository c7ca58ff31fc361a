-- Identifiers in the order of their stamps, each once.
use Rattle.std.specs.Prelude.{◌↔◌}
use Rattle.std.specs.List.{Contains, dedup}
use Rattle.std.specs.List.Retain.{DiffersFromLast, IsFiltered}
use Rattle.std.specs.List.Sorted.{IsPermutation, IsSorted, IsStrictlySortedBy}
use Rattle.std.specs.Ordering.{is_eq, eq_by_cmp}
use Rattle.std.proofs.Common.{◌≡◌, List, [], Bool, true, false, refl, sym, ap, subst, ◌∙◌}
use Rattle.std.proofs.lemmas.Cmp.{eq_by_cmp_equiv, tied_itself}
use Rattle.std.proofs.lemmas.List.Filters.{dedup_is}
use Rattle.std.proofs.lemmas.List.Kept.{Contains-dedup, Contains-from_dedup, IsStrictlySortedBy-dedup}
use Rattle.std.proofs.lemmas.List.Sorted.{Contains-permutation, IsPermutation-sym}
use Rattle.std.proofs.lemmas.Map.Views.{Contains-from_any, list_any-from_Contains, tells_apart}
use Rattle.fed_stamp.specs.Stamp.{StampValue, same_stamp}
use Rattle.fed_lattice.specs.ExactLaws.{exact_stamp, same_stamp_is, same_stamp_itself}
use Rattle.fed_lattice.specs.Latest.{stamp_cmp}
use Rattle.fed_lattice.specs.LatestLaws.{stamp_total}
use Rattle.fed_lattice.specs.Sets.{Has}
use Rattle.fed_lattice.specs.SetLaws.{found, any_from}

-- tests that imply each other are equal
same_test : (s t : Bool) → (s ≡ true → t ≡ true) → (t ≡ true → s ≡ true) → s ≡ t
same_test true t p q = sym (p refl)
same_test false true p q = q refl
same_test false false p q = refl

tied : (s : StampValue) → eq_by_cmp stamp_cmp s s ≡ true
tied s = ap is_eq (tied_itself stamp_total s)

-- stamps are equal by their parts where they compare equal
pub stamp_ties : (s t : StampValue) → same_stamp s t ≡ eq_by_cmp stamp_cmp s t
stamp_ties s t = same_test _ _
    (λ e. subst (λ (u : StampValue). eq_by_cmp stamp_cmp s u ≡ true) (same_stamp_is s t e) (tied s))
    (λ e. subst (λ (u : StampValue). same_stamp s u ≡ true) (tells_apart exact_stamp s t e) (same_stamp_itself s))

has_contains : (xs : List StampValue) (x : StampValue) → Has xs x → Contains xs x
has_contains xs x h = Contains-from_any {eq = eq_by_cmp stamp_cmp} (tells_apart exact_stamp) x xs (any_from (eq_by_cmp stamp_cmp x) xs x h (tied x))

contains_has : (xs : List StampValue) (x : StampValue) → Contains xs x → Has xs x
contains_has xs x k =
    let f = found (eq_by_cmp stamp_cmp x) xs (list_any-from_Contains (eq_by_cmp_equiv stamp_total) x xs k) in
    subst (Has xs) (sym (tells_apart exact_stamp x f.0 f.2)) f.1

-- a sort and a dedup
module _ (ids sorted once : List StampValue) (order : IsPermutation ids sorted) (kept : IsFiltered (DiffersFromLast same_stamp) [] sorted once) where
  once_is : once ≡ dedup (eq_by_cmp stamp_cmp) sorted
  once_is = dedup_is same_stamp sorted once kept ∙ ap (λ (same : StampValue → StampValue → Bool). dedup same sorted) (λ i s t. stamp_ties s t i)

  pub once_ascends : IsSorted stamp_cmp sorted → IsStrictlySortedBy stamp_cmp once
  once_ascends up = subst (IsStrictlySortedBy stamp_cmp) (sym once_is) (IsStrictlySortedBy-dedup stamp_total (λ s t. refl) sorted up)

  pub once_members : (id : StampValue) → Has once id ↔ Has ids id
  once_members id = (
    λ h. contains_has ids id (Contains-permutation sorted ids id (IsPermutation-sym ids sorted order)
        (Contains-from_dedup (eq_by_cmp stamp_cmp) sorted id (subst (λ l. Contains l id) once_is (has_contains once id h)))),
    λ h. contains_has once id (subst (λ l. Contains l id) (sym once_is)
        (Contains-dedup (eq_by_cmp_equiv stamp_total) (tells_apart exact_stamp) sorted id (Contains-permutation ids sorted id order (has_contains ids id h)))),
  )
