-- How loops take entries out of a table and put values back.
use Rattle.std.specs.List.{AllByRecursion, list_any}
use Rattle.std.specs.Ordering.{is_eq, eq_by_cmp}
use Rattle.std.specs.BTreeMap.{insert_entry, is_at}
use Rattle.std.specs.Map.{keys_of, lookup, remove_entry}
use Rattle.std.specs.List.Sorted.{IsStrictlySortedBy}
use Rattle.std.specs.Cmp.{IsTotalOrder, IsEquivalence, eq_by_cmp_equiv}
use Rattle.std.proofs.Common.{◌≡◌, ℕ, zero, suc, ◌+◌, ◌<◌, length, get_or, drop, arith, List, [], ◌∷◌, All, Bool, true, false, cond, not, ◌||◌, filter, Option, Some, None, is_some, IsSome, unwrap_or, Ordering, refl, sym, ap, subst, ◌∙◌, inl, inr}
use Rattle.std.proofs.lemmas.List.{drop_more}
use Rattle.std.proofs.lemmas.List.Elements.{All-tail, All-head}
use Rattle.std.proofs.lemmas.Map.{lookup-remove_entry}
use Rattle.std.proofs.lemmas.Map.Entries.{lookup-filter-keys}
use Rattle.std.proofs.lemmas.Map.Keys.{IsDistinct-from_sorted}
use Rattle.std.proofs.lemmas.Map.Lookups.{CmpEqualImpliesEq}
use Rattle.std.proofs.lemmas.Map.Views.{tells_apart, lookup-from_Contains}
use Rattle.fed_lattice.specs.Sets.{Has}
use Rattle.fed_lattice.specs.Table.{value_at, filled}
use Rattle.fed_lattice.specs.JoinedEntries.{without}
use Rattle.fed_lattice.specs.TableEntryLaws.{same_tables, lookup-insert_entry}

-- ---- entries that are left out
module _ {K X : Type 0} (R : K → K → Ordering) where
  all_filtered : (P : K → Type 0) (p : K × X → Bool) (es : List (K × X)) → AllByRecursion P (keys_of es) → AllByRecursion P (keys_of (filter p es))
  all_filtered P p [] a = tt
  all_filtered P p (e ∷ es) a = go (p e) (all_filtered P p es a.1) where
    go : (b : Bool) → AllByRecursion P (keys_of (filter p es)) → AllByRecursion P (keys_of (cond b (e ∷ filter p es) (filter p es)))
    go true r = (a.0, r)
    go false r = r

  pub sorted_filtered : (p : K × X → Bool) (es : List (K × X)) → IsStrictlySortedBy R (keys_of es) → IsStrictlySortedBy R (keys_of (filter p es))
  unfolding IsStrictlySortedBy
  sorted_filtered p [] s = tt
  sorted_filtered p (e ∷ es) s = go (p e) (sorted_filtered p es s.1) where
    go : (b : Bool) → IsStrictlySortedBy R (keys_of (filter p es)) → IsStrictlySortedBy R (keys_of (cond b (e ∷ filter p es) (filter p es)))
    go true r = (all_filtered (λ y. R e.0 y ≡ Ordering.Less) p es s.0, r)
    go false r = r

  all_removed : (P : K → Type 0) (test : K → Bool) (es : List (K × X)) → AllByRecursion P (keys_of es) → AllByRecursion P (keys_of (remove_entry test es))
  all_removed P test [] a = tt
  all_removed P test (e ∷ es) a = go (test e.0) (all_removed P test es a.1) where
    go : (b : Bool) → AllByRecursion P (keys_of (remove_entry test es)) → AllByRecursion P (keys_of (cond b es (e ∷ remove_entry test es)))
    go true r = a.1
    go false r = (a.0, r)

  pub sorted_removed : (test : K → Bool) (es : List (K × X)) → IsStrictlySortedBy R (keys_of es) → IsStrictlySortedBy R (keys_of (remove_entry test es))
  unfolding IsStrictlySortedBy
  sorted_removed test [] s = tt
  sorted_removed test (e ∷ es) s = go (test e.0) (sorted_removed test es s.1) where
    go : (b : Bool) → IsStrictlySortedBy R (keys_of (remove_entry test es)) → IsStrictlySortedBy R (keys_of (cond b es (e ∷ remove_entry test es)))
    go true r = s.1
    go false r = (all_removed (λ y. R e.0 y ≡ Ordering.Less) test es s.0, r)

-- ---- the elements of a list
module _ {A : Type 0} where
  -- the element at an index, and what is left after it
  pub drop_item : (xs : List A) (i : ℕ) (x : A) → i < length xs → x ≡ get_or xs i x → drop i xs ≡ x ∷ drop (i + 1) xs
  drop_item xs i x l e = drop_more xs i x l ∙ ap (λ (y : A). y ∷ drop (i + 1) xs) (sym e)

  Has-drop : (i : ℕ) (xs : List A) (x : A) → Has (drop i xs) x → Has xs x
  Has-drop zero xs x h = h
  Has-drop (suc i) [] x h = h
  Has-drop (suc i) (y ∷ xs) x h = inr (Has-drop i xs x h)

  pub Has-item : (xs : List A) (i : ℕ) (x : A) → i < length xs → x ≡ get_or xs i x → Has xs x
  Has-item xs i x l e = Has-drop i xs x (subst (λ (ys : List A). Has ys x) (sym (drop_item xs i x l e)) (inl refl))

  get_again : (xs : List A) (i : ℕ) (d : A) → i < length xs → get_or xs i (get_or xs i d) ≡ get_or xs i d
  get_again [] i d l = absurd (omega (arith, l))
  get_again (x ∷ xs) zero d l = refl
  get_again (x ∷ xs) (suc i) d l = get_again xs i d (omega (arith, l))

module _ {K X : Type 0} (R : K → K → Ordering) (o : IsTotalOrder R) (exact : CmpEqualImpliesEq R) where
  abbrev at : List (K × X) → K → Option X
  at es q = lookup (is_at (R q)) es

  -- a look-up at the key of an entry finds its value
  pub found_each : (es : List (K × X)) → IsStrictlySortedBy R (keys_of es) → All (λ e. at es e.0 ≡ Some e.1) es
  found_each es s i d l = let e : K × X = get_or es i d in
      lookup-from_Contains (eq_by_cmp_equiv o) e.0 e.1 es (IsDistinct-from_sorted R (keys_of es) s) (i, l, get_again es i d l)

  -- ---- the loop that takes keys out
  pub lookup-without : (q : K) (es : List (K × X)) (ks : List K) → at (without R es ks) q ≡ cond (not (list_any (is_at (R q)) ks)) (at es q) None
  lookup-without q es ks = lookup-filter-keys (is_at (R q)) (λ k. not (list_any (is_at (R k)) ks)) (not (list_any (is_at (R q)) ks))
      (λ k e. ap (λ x. not (list_any (is_at (R x)) ks)) (sym (tells_apart exact q k e))) es

  pub sorted_without : (es : List (K × X)) (ks : List K) → IsStrictlySortedBy R (keys_of es) → IsStrictlySortedBy R (keys_of (without R es ks))
  sorted_without es ks s = sorted_filtered R (λ e. not (list_any (is_at (R e.0)) ks)) es s

  removed_bits : (a b : Bool) (x : Option X) → cond (not b) (cond a None x) None ≡ cond (not (a || b)) x None
  removed_bits true true x = refl
  removed_bits true false x = refl
  removed_bits false b x = refl

  lookup-removed : (q k : K) (es : List (K × X)) → IsStrictlySortedBy R (keys_of es) → at (remove_entry (is_at (R k)) es) q ≡ cond (is_eq (R q k)) None (at es q)
  lookup-removed q k es s =
      let l : IsEquivalence (eq_by_cmp R) = eq_by_cmp_equiv o in
      lookup-remove_entry l (is_at (R k)) (λ x y e. ap (λ z. is_eq (R z y)) (tells_apart exact k x e)) q es (IsDistinct-from_sorted R (keys_of es) s)
      ∙ ap (λ b. cond b None (at es q)) (l.symm k q)

  without_more : (es : List (K × X)) (k : K) (ks : List K) → IsStrictlySortedBy R (keys_of es) → without R (remove_entry (is_at (R k)) es) ks ≡ without R es (k ∷ ks)
  without_more es k ks s = same_tables R o exact _ _ (sorted_without _ ks (sorted_removed R (is_at (R k)) es s)) (sorted_without es (k ∷ ks) s)
      (λ q. lookup-without q (remove_entry (is_at (R k)) es) ks
      ∙ ap (λ a. cond (not (list_any (is_at (R q)) ks)) a None) (lookup-removed q k es s)
      ∙ removed_bits (is_eq (R q k)) (list_any (is_at (R q)) ks) (at es q)
      ∙ sym (lookup-without q es (k ∷ ks)))

  -- what is left to take out
  pub record IsRemoving (es : List (K × X)) (ks : List K) (all : List (K × X)) : Type 0 where
    pub left : without R es ks ≡ all
    pub sorted : IsStrictlySortedBy R (keys_of es)

  pub removing_more : (es new all : List (K × X)) (ks rest : List K) (k : K) → IsRemoving es ks all → ks ≡ k ∷ rest → new ≡ remove_entry (is_at (R k)) es → IsRemoving new rest all
  removing_more es new all ks rest k p first e = record {
    left = ap (λ l. without R l rest) e ∙ without_more es k rest p.sorted ∙ ap (without R es) (sym first) ∙ p.left;
    sorted = subst (λ (l : List (K × X)). IsStrictlySortedBy R (keys_of l)) (sym e) (sorted_removed R (is_at (R k)) es p.sorted);
  }

  without_none : (es : List (K × X)) → without R es [] ≡ es
  without_none [] = refl
  without_none (e ∷ es) = ap (λ l. e ∷ l) (without_none es)

  pub removing_end : (es all : List (K × X)) (ks : List K) → IsRemoving es ks all → ks ≡ [] → es ≡ all
  removing_end es all ks p n = sym (without_none es) ∙ ap (without R es) (sym n) ∙ p.left

  -- ---- the loop that replaces values
  -- what is left to replace, that its values are those wanted, and that its keys are there
  pub record IsReplacing (values es it all : List (K × X)) (bottom : X) : Type 0 where
    pub left : filled R (value_at R bottom values) es (keys_of it) ≡ all
    pub found : All (λ e. at values e.0 ≡ Some e.1) it
    pub there : (q : K) → is_some (at values q) ≡ true → is_some (at es q) ≡ true

  still_there : (t : Bool) (w : X) (a : Option X) → is_some a ≡ true → is_some (cond t (Some w) a) ≡ true
  still_there true w a h = refl
  still_there false w a h = h

  pub replacing_more : (values es new it rest all : List (K × X)) (bottom : X) (k : K) (w : X) → IsReplacing values es it all bottom → it ≡ (k, w) ∷ rest → new ≡ insert_entry R es k w → IsReplacing values new rest all bottom
  replacing_more values es new it rest all bottom k w p first e =
      let here : All (λ e. at values e.0 ≡ Some e.1) ((k, w) ∷ rest) = subst (All (λ e. at values e.0 ≡ Some e.1)) first p.found in
      let v : at values k ≡ Some w = All-head (λ (e : K × X). at values e.0 ≡ Some e.1) (k, w) rest here in
      let h : new ≡ insert_entry R es k (value_at R bottom values k) = e ∙ ap (insert_entry R es k) (ap (λ a. unwrap_or a bottom) (sym v)) in
      record {
        left = ap (λ l. filled R (value_at R bottom values) l (keys_of rest)) h ∙ ap (λ (l : List (K × X)). filled R (value_at R bottom values) es (keys_of l)) (sym first) ∙ p.left;
        found = All-tail (λ (e : K × X). at values e.0 ≡ Some e.1) (k, w) rest here;
        there = λ q i. ap is_some (ap (λ l. at l q) e ∙ lookup-insert_entry R o exact q k w es) ∙ still_there (is_eq (R q k)) w (at es q) (p.there q i);
      }

  -- a key that is there is never refused
  pub replacing_there : (values es it rest all : List (K × X)) (bottom : X) (k : K) (w : X) → IsReplacing values es it all bottom → it ≡ (k, w) ∷ rest → IsSome (at es k)
  replacing_there values es it rest all bottom k w p first =
      let v : at values k ≡ Some w = All-head (λ (e : K × X). at values e.0 ≡ Some e.1) (k, w) rest (subst (All (λ e. at values e.0 ≡ Some e.1)) first p.found) in
      p.there k (ap is_some v)

  pub replacing_end : (values es it all : List (K × X)) (bottom : X) → IsReplacing values es it all bottom → it ≡ [] → es ≡ all
  replacing_end values es it all bottom p n = ap (λ (l : List (K × X)). filled R (value_at R bottom values) es (keys_of l)) (sym n) ∙ p.left
