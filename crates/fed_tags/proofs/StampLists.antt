-- Strictly sorted lists: what is inserted at its place, and what a test takes out.
use Rattle.std.specs.List.{HoldsAt, list_any, insert}
use Rattle.std.specs.List.Retain.{RetainsInTurn}
use Rattle.std.specs.List.Sorted.{IsStrictlySortedBy, IsNonDecreasingBy, IsPartitionPoint, IsSearchInRange, IsBinarySearchResult}
use Rattle.std.specs.Ordering.{is_eq, is_lt, eq_by_cmp, ordering_reverse, ordering_index, match_ordering}
use Rattle.std.specs.BTreeSet.{insert_key}
use Rattle.std.specs.Cmp.{IsTotalOrder}
use Rattle.std.proofs.Common.{◌≡◌, ℕ, zero, suc, ◌+◌, ◌<◌, ◌≤◌, List, [], ◌∷◌, Bool, true, false, cond, ◌||◌, length, get_or, filter, Ordering, Less, Equal, Greater, Result, Ok, Err, is_ok, refl, sym, ap, ap₂, subst, ◌∙◌, arith}
use Rattle.std.proofs.lemmas.List.Folds.{list_any_at}
use Rattle.std.proofs.lemmas.List.Sorted.{searchable_from_sorted}
use Rattle.std.proofs.lemmas.Map.Keys.{Less-from_sorted}
use Rattle.std.proofs.lemmas.Map.Lookups.{CmpEqualImpliesEq}
use Rattle.std.proofs.lemmas.Map.Views.{tells_apart}
use Rattle.fed_lattice.specs.KeySetLaws.{same_sets, has_insert_key, sorted_insert_key}

module _ {K : Type 0} (R : K → K → Ordering) (o : IsTotalOrder R) where
  -- a strictly sorted list may be searched
  searchable : (xs : List K) (k : K) → IsStrictlySortedBy R xs → IsNonDecreasingBy (λ y. ordering_index (R y k)) xs
  searchable xs k s = searchable_from_sorted o (λ (x : K). x) xs k
      (λ i d l h. ap is_lt (o.antisymm (get_or xs (i + 1) d) (get_or xs i d) ∙ ap ordering_reverse (Less-from_sorted R xs i (i + 1) d s (omega arith) h)))

  -- what is inserted behind all lower and before all higher keys is at its place
  insert_at : (xs : List K) (i : ℕ) (k : K) → i ≤ length xs → IsPartitionPoint (λ y. R y k ≡ Less) (λ y. R y k ≡ Greater) xs i → insert xs i k ≡ insert_key R xs k
  insert_at [] zero k l p = refl
  insert_at [] (suc i) k l p = absurd (omega arith)
  insert_at (x ∷ xs) zero k l p =
      let g : R x k ≡ Greater = p.1 0 x (omega arith) (omega arith) in
      let h : R k x ≡ Less = o.antisymm k x ∙ ap ordering_reverse g in
      sym (ap (λ r. match_ordering r (k ∷ x ∷ xs) (x ∷ xs) (x ∷ insert_key R xs k)) h)
  insert_at (x ∷ xs) (suc i) k l p =
      let g : R x k ≡ Less = p.0 0 x (omega arith) (omega arith) in
      let h : R k x ≡ Greater = o.antisymm k x ∙ ap ordering_reverse g in
      ap (λ ys. x ∷ ys) (insert_at xs i k (omega arith) (λ j d a b. p.0 (suc j) d (omega arith) (omega arith), λ j d a b. p.1 (suc j) d (omega arith) (omega arith)))
      ∙ sym (ap (λ r. match_ordering r (k ∷ x ∷ xs) (x ∷ xs) (x ∷ insert_key R xs k)) h)

  -- what a search of ys, which is xs, says of a place to insert
  pub insert_found : (xs ys : List K) (i : ℕ) (k : K) → ys ≡ xs → IsStrictlySortedBy R xs → i ≤ length ys → (IsNonDecreasingBy (λ y. ordering_index (R y k)) ys → IsPartitionPoint (λ y. R y k ≡ Less) (λ y. R y k ≡ Greater) ys i) → insert xs i k ≡ insert_key R xs k
  insert_found xs ys i k e s l p = subst (λ (zs : List K). insert zs i k ≡ insert_key R zs k) e (insert_at ys i k l (p (searchable ys k (subst (IsStrictlySortedBy R) (sym e) s))))

  any_at : (xs : List K) (i : ℕ) (k : K) → i < length xs → HoldsAt (λ y. R y k ≡ Equal) xs i → list_any (eq_by_cmp R k) xs ≡ true
  any_at xs i k l h = list_any_at (eq_by_cmp R k) xs i k l (ap is_eq (o.antisymm k (get_or xs i k) ∙ ap ordering_reverse (h k)))

  -- at a gap the key is not there
  any_gap : (xs : List K) (i : ℕ) (k : K) → i ≤ length xs → IsPartitionPoint (λ y. R y k ≡ Less) (λ y. R y k ≡ Greater) xs i → list_any (eq_by_cmp R k) xs ≡ false
  any_gap [] i k l p = refl
  any_gap (x ∷ xs) zero k l p =
      ap₂ (λ a b. a || b) (ap is_eq (o.antisymm k x ∙ ap ordering_reverse (p.1 0 x (omega arith) (omega arith))))
      (any_gap xs zero k (omega arith) (λ j d a b. absurd (omega arith), λ j d a b. p.1 (suc j) d (omega arith) (omega arith)))
  any_gap (x ∷ xs) (suc i) k l p =
      ap₂ (λ a b. a || b) (ap is_eq (o.antisymm k x ∙ ap ordering_reverse (p.0 0 x (omega arith) (omega arith))))
      (any_gap xs i k (omega arith) (λ j d a b. p.0 (suc j) d (omega arith) (omega arith), λ j d a b. p.1 (suc j) d (omega arith) (omega arith)))

  -- what a search of ys, which is xs, says of whether a key is there
  pub any_found : (xs ys : List K) (k : K) → ys ≡ xs → IsStrictlySortedBy R xs → (r : Result ℕ ℕ) → IsSearchInRange r (length ys) → IsBinarySearchResult (λ y. R y k) ys r → is_ok r ≡ list_any (eq_by_cmp R k) xs
  any_found xs ys k e s (Ok i) b p = sym (any_at ys i k b p) ∙ ap (λ l. list_any (eq_by_cmp R k) l) e
  any_found xs ys k e s (Err i) b p =
      sym (any_gap ys i k b (p (searchable ys k (subst (IsStrictlySortedBy R) (sym e) s)))) ∙ ap (λ l. list_any (eq_by_cmp R k) l) e

  module _ (exact : CmpEqualImpliesEq R) where
    -- a key that is there already
    insert_same : (xs : List K) (i : ℕ) (k : K) → IsStrictlySortedBy R xs → i < length xs → HoldsAt (λ y. R y k ≡ Equal) xs i → xs ≡ insert_key R xs k
    insert_same xs i k s l h = same_sets R o exact xs (insert_key R xs k) s (sorted_insert_key R o xs k s)
        (λ q. sym (has_insert_key R o exact q k xs
        ∙ absorbed (is_eq (R q k)) (list_any (eq_by_cmp R q) xs) (λ e. subst (λ (x : K). list_any (eq_by_cmp R x) xs ≡ true) (sym (tells_apart exact q k e)) (any_at xs i k l h)))) where
          absorbed : (a b : Bool) → (a ≡ true → b ≡ true) → (a || b) ≡ b
          absorbed true b f = sym (f refl)
          absorbed false b f = refl

    pub insert_same_found : (xs ys : List K) (i : ℕ) (k : K) → ys ≡ xs → IsStrictlySortedBy R xs → i < length ys → HoldsAt (λ y. R y k ≡ Equal) ys i → xs ≡ insert_key R xs k
    insert_same_found xs ys i k e s l h = subst (λ (zs : List K). zs ≡ insert_key R zs k) e (insert_same ys i k (subst (IsStrictlySortedBy R) (sym e) s) l h)

-- a closure that only tests, and stays as it was, leaves a filter
pub retained_same : {F X : Type 0} (R : F → X → Bool → F → X → Type 0) (test : X → Bool) (f : F) → ((x : X) (b : Bool) (g : F) (y : X) → R f x b g y → (b ≡ test x) × (g ≡ f) × (y ≡ x)) → (xs ys : List X) → RetainsInTurn R f xs ys → ys ≡ filter test xs
retained_same R test f h [] ys r = r
retained_same {F} {X} R test f h (x ∷ xs) ys r =
    let e : (r.0 ≡ test x) × (r.1 ≡ f) × (r.2 ≡ x) = h x r.0 r.1 r.2 r.3 in
    let rest : RetainsInTurn R f xs r.4 = subst (λ (g : F). RetainsInTurn R g xs r.4) e.1 r.5 in
    let k : r.4 ≡ filter test xs = retained_same R test f h xs r.4 rest in
    r.6 ∙ ap (λ b. cond b (r.2 ∷ r.4) r.4) e.0 ∙ ap (λ (y : X). cond (test x) (y ∷ r.4) r.4) e.2 ∙ ap (λ (zs : List X). cond (test x) (x ∷ zs) zs) k
