-- Entries of tables: insertion, what look-ups find after it, and that tables with the same at each key are the same.
use Rattle.std.specs.List.{list_any, AllByRecursion}
use Rattle.std.specs.Ordering.{is_eq, match_ordering, eq_by_cmp, ordering_reverse}
use Rattle.std.specs.BTreeMap.{insert_entry, is_at}
use Rattle.std.specs.Map.{keys_of, lookup}
use Rattle.std.specs.List.Sorted.{IsStrictlySortedBy}
use Rattle.std.specs.Cmp.{IsTotalOrder, IsEquivalence, eq_by_cmp_equiv}
use Rattle.std.proofs.Common.{◌≡◌, List, [], ◌∷◌, Bool, true, false, cond, ◌||◌, Option, Some, None, is_some, unwrap_or, Ordering, Less, Equal, Greater, refl, sym, ap, subst, ◌∙◌, inl, inr}
use Rattle.std.proofs.lemmas.Bool.{cases_Bool}
use Rattle.std.proofs.lemmas.Cmp.{tied_itself}
use Rattle.std.proofs.lemmas.Map.Lookups.{CmpEqualImpliesEq}
use Rattle.std.proofs.lemmas.Map.{lookup-none}
use Rattle.std.proofs.lemmas.Map.Entries.{lookup_head, lookup_tail, none_past_head, none_below_head}
use Rattle.std.proofs.lemmas.Map.Keys.{IsDistinct-from_sorted, sorted_tail}
use Rattle.std.proofs.lemmas.Map.Views.{tells_apart}
use Rattle.fed_lattice.specs.Table.{filled}

match_each : {X : Type 0} (P : X → Type 0) (r : Ordering) (a b c : X) → (r ≡ Less → P a) → (r ≡ Equal → P b) → (r ≡ Greater → P c) → P (match_ordering r a b c)
match_each P Less a b c f g h = f refl
match_each P Equal a b c f g h = g refl
match_each P Greater a b c f g h = h refl

cond_twice : {A : Type 0} (b : Bool) (x y z : A) → cond b x z ≡ cond b x (cond b y z)
cond_twice true x y z = refl
cond_twice false x y z = refl

cond_swap : {A : Type 0} (b c : Bool) (x y z : A) → (b ≡ true → c ≡ true → ⊥) → cond c y (cond b x z) ≡ cond b x (cond c y z)
cond_swap true true x y z f = absurd (f refl refl)
cond_swap true false x y z f = refl
cond_swap false true x y z f = refl
cond_swap false false x y z f = refl

-- ---- keys
module _ {K : Type 0} (R : K → K → Ordering) (o : IsTotalOrder R) where
  all_through : (k e : K) (ks : List K) → R k e ≡ Less → AllByRecursion (λ y. R e y ≡ Less) ks → AllByRecursion (λ y. R k y ≡ Less) ks
  all_through k e [] i a = tt
  all_through k e (y ∷ ks) i a = (o.trans k e y i a.0, all_through k e ks i a.1)

  not_both : CmpEqualImpliesEq R → (q k e : K) → R k e ≡ Greater → is_eq (R q k) ≡ true → is_eq (R q e) ≡ true → ⊥
  not_both exact q k e i a b =
      let p : q ≡ k = tells_apart exact q k a in
      let r : q ≡ e = tells_apart exact q e b in
      let t : R k e ≡ Equal = subst (λ x. R x e ≡ Equal) p (subst (λ x. R q x ≡ Equal) r (tied_itself o q)) in cc

-- ---- insertion, and what a look-up finds after it
module _ {K X : Type 0} (R : K → K → Ordering) (o : IsTotalOrder R) where
  all_insert : (P : K → Type 0) (es : List (K × X)) (k : K) (v : X) → P k → AllByRecursion P (keys_of es) → AllByRecursion P (keys_of (insert_entry R es k v))
  all_insert P [] k v i a = (i, tt)
  all_insert P (e ∷ es) k v i a = match_each (λ (l : List (K × X)). AllByRecursion P (keys_of l)) (R k e.0) _ _ _ (λ _. (i, a)) (λ _. a) (λ _. (a.0, all_insert P es k v i a.1))

  pub sorted_insert : (es : List (K × X)) (k : K) (v : X) → IsStrictlySortedBy R (keys_of es) → IsStrictlySortedBy R (keys_of (insert_entry R es k v))
  unfolding IsStrictlySortedBy
  sorted_insert [] k v s = (tt, tt)
  sorted_insert (e ∷ es) k v s = match_each (λ (l : List (K × X)). IsStrictlySortedBy R (keys_of l)) (R k e.0) _ _ _
      (λ i. ((i, all_through R o k e.0 (keys_of es) i s.0), s))
      (λ _. s)
      (λ i. (all_insert (λ y. R e.0 y ≡ Less) es k v (o.antisymm e.0 k ∙ ap ordering_reverse i) s.0, sorted_insert es k v s.1))

  pub sorted_filled : (f : K → X) (es : List (K × X)) (ks : List K) → IsStrictlySortedBy R (keys_of es) → IsStrictlySortedBy R (keys_of (filled R f es ks))
  sorted_filled f es [] s = s
  sorted_filled f es (k ∷ ks) s = sorted_filled f (insert_entry R es k (f k)) ks (sorted_insert es k (f k) s)

  pub any_lookup : (q : K) (es : List (K × X)) → list_any (eq_by_cmp R q) (keys_of es) ≡ is_some (lookup (is_at (R q)) es)
  any_lookup q [] = refl
  any_lookup q (e ∷ es) = any_step (is_eq (R q e.0)) (list_any (eq_by_cmp R q) (keys_of es)) e.1 (lookup (is_at (R q)) es) (any_lookup q es) where
    any_step : (b c : Bool) (x : X) (r : Option X) → c ≡ is_some r → (b || c) ≡ is_some (cond b (Some x) r)
    any_step true c x r i = refl
    any_step false c x r i = i

  module _ (exact : CmpEqualImpliesEq R) where
    pub lookup-insert_entry : (q k : K) (v : X) (es : List (K × X)) → lookup (is_at (R q)) (insert_entry R es k v) ≡ cond (is_eq (R q k)) (Some v) (lookup (is_at (R q)) es)
    lookup-insert_entry q k v [] = refl
    lookup-insert_entry q k v (e ∷ es) = match_each (λ l. lookup (is_at (R q)) l ≡ cond (is_eq (R q k)) (Some v) (cond (is_eq (R q e.0)) (Some e.1) (lookup (is_at (R q)) es))) (R k e.0) _ _ _
        (λ _. refl)
        (λ i. subst (λ x. cond (is_eq (R q e.0)) (Some v) (lookup (is_at (R q)) es) ≡ cond (is_eq (R q x)) (Some v) (cond (is_eq (R q e.0)) (Some e.1) (lookup (is_at (R q)) es))) (sym (exact k e.0 i)) (cond_twice (is_eq (R q e.0)) (Some v) (Some e.1) (lookup (is_at (R q)) es)))
        (λ i. ap (cond (is_eq (R q e.0)) (Some e.1)) (lookup-insert_entry q k v es) ∙ cond_swap (is_eq (R q k)) (is_eq (R q e.0)) (Some v) (Some e.1) (lookup (is_at (R q)) es) (not_both R o exact q k e.0 i))

    filled_step : (a b : Bool) (x y : X) (r : Option X) → (b ≡ true → x ≡ y) → cond a (Some y) (cond b (Some x) r) ≡ cond (b || a) (Some y) r
    filled_step true true x y r f = refl
    filled_step true false x y r f = refl
    filled_step false true x y r f = ap Some (f refl)
    filled_step false false x y r f = refl

    pub lookup-filled : (q : K) (f : K → X) (es : List (K × X)) (ks : List K) → lookup (is_at (R q)) (filled R f es ks) ≡ cond (list_any (eq_by_cmp R q) ks) (Some (f q)) (lookup (is_at (R q)) es)
    lookup-filled q f es [] = refl
    lookup-filled q f es (k ∷ ks) =
        lookup-filled q f (insert_entry R es k (f k)) ks
        ∙ ap (cond (list_any (eq_by_cmp R q) ks) (Some (f q))) (lookup-insert_entry q k (f k) es)
        ∙ filled_step (list_any (eq_by_cmp R q) ks) (is_eq (R q k)) (f k) (f q) (lookup (is_at (R q)) es) (λ i. ap f (sym (tells_apart exact q k i)))

pub not_none : {X : Type 0} (x : X) → None ≡ Some x → ⊥
not_none x e = cc

-- ---- tables that have the same at each key are the same
module _ {K X : Type 0} (R : K → K → Ordering) (o : IsTotalOrder R) where
  abbrev at : List (K × X) → K → Option X
  at es q = lookup (is_at (R q)) es

  at_head : (x : K × X) (xs : List (K × X)) → at (x ∷ xs) x.0 ≡ Some x.1
  at_head x xs = lookup_head (is_at (R x.0)) x xs (ap is_eq (tied_itself o x.0))

  past_head : (q : K) (x : K × X) (xs : List (K × X)) → IsStrictlySortedBy R (keys_of (x ∷ xs)) → eq_by_cmp R q x.0 ≡ true → at xs q ≡ None
  past_head q x xs s t = lookup-none (is_at (R q)) xs (none_past_head (eq_by_cmp_equiv o) q x xs (IsDistinct-from_sorted R _ s) t)

  pub below_head : (q : K) (x : K × X) (xs : List (K × X)) → IsStrictlySortedBy R (keys_of (x ∷ xs)) → R q x.0 ≡ Less → at (x ∷ xs) q ≡ None
  below_head q x xs s i = lookup-none (is_at (R q)) (x ∷ xs) (none_below_head o q x xs s i)

  module _ (x y : K × X) (xs ys : List (K × X)) (s : IsStrictlySortedBy R (keys_of (x ∷ xs))) (t : IsStrictlySortedBy R (keys_of (y ∷ ys))) (h : (q : K) → at (x ∷ xs) q ≡ at (y ∷ ys) q) where
    by_heads : (r : Ordering) → R x.0 y.0 ≡ r → R x.0 y.0 ≡ Equal
    by_heads Less p = absurd (not_none x.1 (sym (below_head x.0 y ys t p) ∙ sym (h x.0) ∙ at_head x xs))
    by_heads Equal p = p
    by_heads Greater p = absurd (not_none y.1 (sym (below_head y.0 x xs s (o.antisymm y.0 x.0 ∙ ap ordering_reverse p)) ∙ h y.0 ∙ at_head y ys))

    heads : R x.0 y.0 ≡ Equal
    heads = by_heads (R x.0 y.0) refl

    values : x.1 ≡ y.1
    values = ap (λ u. unwrap_or u x.1) (sym (at_head x xs) ∙ h x.0 ∙ lookup_head (is_at (R x.0)) y ys (ap is_eq heads))

    tails : (q : K) → at xs q ≡ at ys q
    tails q =
        let l : IsEquivalence (eq_by_cmp R) = eq_by_cmp_equiv o in
        let e : eq_by_cmp R q y.0 ≡ eq_by_cmp R q x.0 = l.symm q y.0 ∙ sym (l.congr x.0 y.0 q (ap is_eq heads)) ∙ l.symm x.0 q in
        elim (cases_Bool (eq_by_cmp R q x.0)) [
          | inl b ↦ past_head q x xs s b ∙ sym (past_head q y ys t (e ∙ b))
          | inr b ↦ sym (lookup_tail (is_at (R q)) x xs b) ∙ h q ∙ lookup_tail (is_at (R q)) y ys (e ∙ b)
        ]

  pub same_tables : CmpEqualImpliesEq R → (es fs : List (K × X)) → IsStrictlySortedBy R (keys_of es) → IsStrictlySortedBy R (keys_of fs) → ((q : K) → lookup (is_at (R q)) es ≡ lookup (is_at (R q)) fs) → es ≡ fs
  same_tables exact [] [] s t h = refl
  same_tables exact [] (y ∷ ys) s t h = absurd (not_none y.1 (h y.0 ∙ at_head y ys))
  same_tables exact (x ∷ xs) [] s t h = absurd (not_none x.1 (sym (h x.0) ∙ at_head x xs))
  same_tables exact (x ∷ xs) (y ∷ ys) s t h =
      let r : xs ≡ ys = same_tables exact xs ys (sorted_tail R x.0 (keys_of xs) s) (sorted_tail R y.0 (keys_of ys) t) (tails x y xs ys s t h) in
      λ i. (exact x.0 y.0 (heads x y xs ys s t h) i, values x y xs ys s t h i) ∷ r i
