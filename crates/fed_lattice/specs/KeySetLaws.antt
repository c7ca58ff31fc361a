-- Ascending lists of keys: that insertion keeps them so, and that lists with the same members are the same.
use Rattle.std.specs.List.{list_any}
use Rattle.std.specs.Ordering.{is_eq, eq_by_cmp, match_ordering}
use Rattle.std.specs.Map.{keys_of, lookup}
use Rattle.std.specs.BTreeMap.{insert_entry, is_at}
use Rattle.std.specs.BTreeSet.{insert_key}
use Rattle.std.specs.Cmp.{IsTotalOrder}
use Rattle.std.specs.List.Sorted.{IsStrictlySortedBy}
use Rattle.std.proofs.Common.{◌≡◌, List, [], ◌∷◌, Bool, true, false, cond, ◌||◌, Ordering, Less, Equal, Greater, Option, Some, None, refl, sym, ap, subst, ◌∙◌}
use Rattle.std.proofs.lemmas.Map.Lookups.{CmpEqualImpliesEq}
use Rattle.fed_lattice.specs.TableEntryLaws.{same_tables, sorted_insert, lookup-insert_entry}

-- a set is a table of units
abbrev present : Bool → Option (Unit {0})
present true = Some tt
present false = None

present_or : (a b : Bool) (u : Unit {0}) → cond a (Some u) (present b) ≡ present (a || b)
present_or true b u = refl
present_or false b u = refl

one_test : (b c : Bool) → present b ≡ present c → b ≡ c
one_test true true e = refl
one_test true false e = cc
one_test false true e = cc
one_test false false e = refl

module _ {K : Type 0} where
  abbrev units : List K → List (K × Unit {0})
  units [] = []
  units (k ∷ ks) = (k, tt) ∷ units ks

  keys_units : (ks : List K) → keys_of (units ks) ≡ ks
  keys_units [] = refl
  keys_units (k ∷ ks) = ap (λ l. k ∷ l) (keys_units ks)

module _ {K : Type 0} (R : K → K → Ordering) where
  lookup_units : (q : K) (ks : List K) → lookup (is_at (R q)) (units ks) ≡ present (list_any (eq_by_cmp R q) ks)
  lookup_units q [] = refl
  lookup_units q (k ∷ ks) = ap (cond (is_eq (R q k)) (Some tt)) (lookup_units q ks) ∙ present_or (is_eq (R q k)) (list_any (eq_by_cmp R q) ks) tt

  units_order : (k l : K) (ks : List K) (r : Ordering) → units (insert_key R ks k) ≡ insert_entry R (units ks) k tt → units (match_ordering r (k ∷ l ∷ ks) (l ∷ ks) (l ∷ insert_key R ks k)) ≡ match_ordering r ((k, tt) ∷ (l, tt) ∷ units ks) ((l, tt) ∷ units ks) ((l, tt) ∷ insert_entry R (units ks) k tt)
  units_order k l ks Less e = refl
  units_order k l ks Equal e = refl
  units_order k l ks Greater e = ap (λ m. (l, tt) ∷ m) e

  units_insert : (k : K) (ks : List K) → units (insert_key R ks k) ≡ insert_entry R (units ks) k tt
  units_insert k [] = refl
  units_insert k (l ∷ ks) = units_order k l ks (R k l) (units_insert k ks)

  module _ (o : IsTotalOrder R) where
    pub sorted_insert_key : (ks : List K) (k : K) → IsStrictlySortedBy R ks → IsStrictlySortedBy R (insert_key R ks k)
    sorted_insert_key ks k s =
        let t : IsStrictlySortedBy R (keys_of (units ks)) = subst (IsStrictlySortedBy R) (sym (keys_units ks)) s in
        let i : IsStrictlySortedBy R (keys_of (units (insert_key R ks k))) = subst (λ (m : List (K × Unit {0})). IsStrictlySortedBy R (keys_of m)) (sym (units_insert k ks)) (sorted_insert R o (units ks) k tt t) in
        subst (IsStrictlySortedBy R) (keys_units (insert_key R ks k)) i

    module _ (exact : CmpEqualImpliesEq R) where
      pub same_sets : (ks ls : List K) → IsStrictlySortedBy R ks → IsStrictlySortedBy R ls → ((q : K) → list_any (eq_by_cmp R q) ks ≡ list_any (eq_by_cmp R q) ls) → ks ≡ ls
      same_sets ks ls s t h =
          let e : units ks ≡ units ls = same_tables R o exact (units ks) (units ls)
          (subst (IsStrictlySortedBy R) (sym (keys_units ks)) s) (subst (IsStrictlySortedBy R) (sym (keys_units ls)) t)
          (λ q. lookup_units q ks ∙ ap present (h q) ∙ sym (lookup_units q ls)) in
          sym (keys_units ks) ∙ ap (λ (m : List (K × Unit {0})). keys_of m) e ∙ keys_units ls

      pub has_insert_key : (q k : K) (ks : List K) → list_any (eq_by_cmp R q) (insert_key R ks k) ≡ (is_eq (R q k) || list_any (eq_by_cmp R q) ks)
      has_insert_key q k ks = one_test _ _
          (sym (lookup_units q (insert_key R ks k)) ∙ ap (lookup (is_at (R q))) (units_insert k ks) ∙ lookup-insert_entry R o exact q k tt (units ks)
          ∙ ap (cond (is_eq (R q k)) (Some tt)) (lookup_units q ks) ∙ present_or (is_eq (R q k)) (list_any (eq_by_cmp R q) ks) tt)
