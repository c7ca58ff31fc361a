-- The laws of joined tables.
use Rattle.std.specs.Ordering.{eq_by_cmp}
use Rattle.std.specs.BTreeMap.{insert_entry, is_at}
use Rattle.std.specs.Map.{keys_of, lookup}
use Rattle.std.specs.List.Sorted.{IsStrictlySortedBy}
use Rattle.std.specs.Cmp.{IsTotalOrder}
use Rattle.std.proofs.Common.{◌≡◌, ℕ, List, [], ◌∷◌, ◌++◌, Bool, cond, ◌||◌, Option, Some, None, is_some, unwrap_or, IfSome, arith, Ordering, refl, sym, ap, ap₂, ◌∙◌}
use Rattle.std.proofs.lemmas.List.Folds.{list_any-append}
use Rattle.std.proofs.lemmas.Map.Lookups.{CmpEqualImpliesEq}
use Rattle.std.proofs.lemmas.Map.Views.{All-values-insert_entry, IfSome-lookup_from_All}
use Rattle.fed_stamp.specs.Stamp.{StampValue}
use Rattle.fed_stamp.specs.Version.{joined as joined_versions}
use Rattle.fed_lattice.specs.Laws.{IsAssociative, IsCommutative, IsIdempotent, JoinsWellFormed, BottomsJoin}
use Rattle.fed_lattice.specs.Table.{IsTable, value_at, filled, joined_tables, applied_table}
use Rattle.fed_lattice.specs.FlagLaws.{or_assoc, or_comm}
use Rattle.fed_lattice.specs.TableEntryLaws.{sorted_insert, sorted_filled, any_lookup, lookup-filled, same_tables}

-- ---- joins
value_well_formed : {X : Type 0} (bottom : X) (well_formed : X → Type 0) → well_formed bottom → (a : Option X) → IfSome a well_formed → well_formed (unwrap_or a bottom)
value_well_formed bottom well_formed p None q = p
value_well_formed bottom well_formed p (Some x) q = q

module _ {X : Type 0} (bottom : X) (joined : X → List ℕ → X → List ℕ → X) where
  -- what a key has in a join, from what it has in the tables
  abbrev pub joined_options : List ℕ → List ℕ → Option X → Option X → Option X
  joined_options v w a b = cond (is_some a || is_some b) (Some (joined (unwrap_or a bottom) v (unwrap_or b bottom) w)) None

  some_joined : (v w : List ℕ) (a b : Option X) → is_some (joined_options v w a b) ≡ (is_some a || is_some b)
  some_joined v w None None = refl
  some_joined v w None (Some y) = refl
  some_joined v w (Some x) b = refl

  pub value_joined : BottomsJoin bottom joined → (v w : List ℕ) (a b : Option X) → unwrap_or (joined_options v w a b) bottom ≡ joined (unwrap_or a bottom) v (unwrap_or b bottom) w
  value_joined n v w None None = sym (n v w)
  value_joined n v w None (Some y) = refl
  value_joined n v w (Some x) b = refl

  same_options : (r s : Bool) (x y : X) → r ≡ s → x ≡ y → cond r (Some x) None ≡ cond s (Some y) None
  same_options r s x y p q = ap₂ (λ (t : Bool) (z : X). cond t (Some z) None) p q

  module _ (well_formed : X → Type 0) (well_formed_bottom : well_formed bottom) where
    value_of : (a : Option X) → IfSome a well_formed → well_formed (unwrap_or a bottom)
    value_of = value_well_formed bottom well_formed well_formed_bottom

    options_assoc : BottomsJoin bottom joined → IsAssociative well_formed joined → (u v w : List ℕ) (a b c : Option X) → IfSome a well_formed → IfSome b well_formed → IfSome c well_formed
        → joined_options (joined_versions u v) w (joined_options u v a b) c ≡ joined_options u (joined_versions v w) a (joined_options v w b c)
    options_assoc n assoc u v w a b c p q r = same_options _ _ _ _
        (ap (λ t. t || is_some c) (some_joined u v a b) ∙ or_assoc (is_some a) (is_some b) (is_some c) ∙ ap (λ t. is_some a || t) (sym (some_joined v w b c)))
        (ap (λ x. joined x (joined_versions u v) (unwrap_or c bottom) w) (value_joined n u v a b)
        ∙ assoc (unwrap_or a bottom) (unwrap_or b bottom) (unwrap_or c bottom) u v w (value_of a p) (value_of b q) (value_of c r)
        ∙ ap (λ x. joined (unwrap_or a bottom) u x (joined_versions v w)) (sym (value_joined n v w b c)))

    options_comm : IsCommutative well_formed joined → (v w : List ℕ) (a b : Option X) → IfSome a well_formed → IfSome b well_formed → joined_options v w a b ≡ joined_options w v b a
    options_comm comm v w a b p q = same_options _ _ _ _
        (or_comm (is_some a) (is_some b))
        (comm (unwrap_or a bottom) (unwrap_or b bottom) v w (value_of a p) (value_of b q))

    options_itself : IsIdempotent well_formed joined → (v : List ℕ) (a : Option X) → IfSome a well_formed → joined_options v v a a ≡ a
    options_itself itself v None p = refl
    options_itself itself v (Some x) p = ap Some (itself x v p)

module _ {K X : Type 0} (R : K → K → Ordering) (o : IsTotalOrder R) (exact : CmpEqualImpliesEq R) (bottom : X) (joined : X → List ℕ → X → List ℕ → X) where
  pub lookup-joined_tables : (q : K) (xs ys : List (K × X)) (v w : List ℕ) → lookup (is_at (R q)) (joined_tables R bottom joined xs v ys w) ≡ joined_options bottom joined v w (lookup (is_at (R q)) xs) (lookup (is_at (R q)) ys)
  lookup-joined_tables q xs ys v w =
      lookup-filled R o exact q (λ k. joined (value_at R bottom xs k) v (value_at R bottom ys k) w) [] (keys_of xs ++ keys_of ys)
      ∙ ap (λ t. cond t (Some (joined (value_at R bottom xs q) v (value_at R bottom ys q) w)) None)
      (list_any-append (eq_by_cmp R q) (keys_of xs) (keys_of ys) ∙ ap₂ (λ s t. s || t) (any_lookup R o q xs) (any_lookup R o q ys))

  pub sorted_joined_tables : (xs ys : List (K × X)) (v w : List ℕ) → IsStrictlySortedBy R (keys_of (joined_tables R bottom joined xs v ys w))
  unfolding IsStrictlySortedBy
  sorted_joined_tables xs ys v w = sorted_filled R o (λ k. joined (value_at R bottom xs k) v (value_at R bottom ys k) w) [] (keys_of xs ++ keys_of ys) tt

  module _ (well_formed : X → Type 0) (well_formed_bottom : well_formed bottom) where
    has : (q : K) (es : List (K × X)) → IsTable R well_formed es → IfSome (lookup (is_at (R q)) es) well_formed
    has q es t = IfSome-lookup_from_All well_formed (is_at (R q)) es t.1

    pub joined_tables_assoc : BottomsJoin bottom joined → IsAssociative well_formed joined → IsAssociative (IsTable R well_formed) (joined_tables R bottom joined)
    joined_tables_assoc n assoc x y z u v w p q r = same_tables R o exact _ _
        (sorted_joined_tables (joined_tables R bottom joined x u y v) z (joined_versions u v) w)
        (sorted_joined_tables x (joined_tables R bottom joined y v z w) u (joined_versions v w))
        (λ k.
        lookup-joined_tables k (joined_tables R bottom joined x u y v) z (joined_versions u v) w
        ∙ ap (λ a. joined_options bottom joined (joined_versions u v) w a (lookup (is_at (R k)) z)) (lookup-joined_tables k x y u v)
        ∙ options_assoc bottom joined well_formed well_formed_bottom n assoc u v w _ _ _ (has k x p) (has k y q) (has k z r)
        ∙ ap (λ a. joined_options bottom joined u (joined_versions v w) (lookup (is_at (R k)) x) a) (sym (lookup-joined_tables k y z v w))
        ∙ sym (lookup-joined_tables k x (joined_tables R bottom joined y v z w) u (joined_versions v w)))

    pub joined_tables_comm : IsCommutative well_formed joined → IsCommutative (IsTable R well_formed) (joined_tables R bottom joined)
    joined_tables_comm comm x y v w p q = same_tables R o exact _ _ (sorted_joined_tables x y v w) (sorted_joined_tables y x w v)
        (λ k. lookup-joined_tables k x y v w ∙ options_comm bottom joined well_formed well_formed_bottom comm v w _ _ (has k x p) (has k y q) ∙ sym (lookup-joined_tables k y x w v))

    pub joined_tables_itself : IsIdempotent well_formed joined → IsIdempotent (IsTable R well_formed) (joined_tables R bottom joined)
    joined_tables_itself itself x v p = same_tables R o exact _ _ (sorted_joined_tables x x v v) p.0
        (λ k. lookup-joined_tables k x x v v ∙ options_itself bottom joined well_formed well_formed_bottom itself v _ (has k x p))

-- ---- well-formed tables
module _ {K X : Type 0} (R : K → K → Ordering) (o : IsTotalOrder R) (well_formed : X → Type 0) where
  pub well_formed_empty : IsTable {X = X} R well_formed []
  unfolding IsStrictlySortedBy
  well_formed_empty = (tt, λ k d l. absurd (omega (arith, l)))

  pub well_formed_insert : (es : List (K × X)) (k : K) (v : X) → IsTable R well_formed es → well_formed v → IsTable R well_formed (insert_entry R es k v)
  well_formed_insert es k v p q = (sorted_insert R o es k v p.0, All-values-insert_entry R k v well_formed es p.1 q)

  pub well_formed_filled : (f : K → X) (es : List (K × X)) (ks : List K) → ((k : K) → well_formed (f k)) → IsTable R well_formed es → IsTable R well_formed (filled R f es ks)
  well_formed_filled f es [] g p = p
  well_formed_filled f es (k ∷ ks) g p = well_formed_filled f (insert_entry R es k (f k)) ks g (well_formed_insert es k (f k) p (g k))

  module _ (bottom : X) (well_formed_bottom : well_formed bottom) where
    pub value_at_well_formed : (es : List (K × X)) (k : K) → IsTable R well_formed es → well_formed (value_at R bottom es k)
    value_at_well_formed es k p = value_well_formed bottom well_formed well_formed_bottom (lookup (is_at (R k)) es) (IfSome-lookup_from_All well_formed (is_at (R k)) es p.1)

    pub well_formed_joined_tables : (joined : X → List ℕ → X → List ℕ → X) → JoinsWellFormed well_formed joined → JoinsWellFormed (IsTable R well_formed) (joined_tables R bottom joined)
    well_formed_joined_tables joined law xs ys v w p q =
        well_formed_filled (λ k. joined (value_at R bottom xs k) v (value_at R bottom ys k) w) [] (keys_of xs ++ keys_of ys)
        (λ k. law (value_at R bottom xs k) (value_at R bottom ys k) v w (value_at_well_formed xs k p) (value_at_well_formed ys k q))
        well_formed_empty

    pub well_formed_applied_table : {C : Type 0} (applied : X → StampValue → C → X) → ((x : X) (s : StampValue) (c : C) → well_formed x → well_formed (applied x s c)) → (es : List (K × X)) (s : StampValue) (c : K × C) → IsTable R well_formed es → IsTable R well_formed (applied_table R bottom applied es s c)
    well_formed_applied_table applied law es s c p = well_formed_insert es c.0 (applied (value_at R bottom es c.0) s c.1) p (law (value_at R bottom es c.0) s c.1 (value_at_well_formed es c.0 p))
