-- Where the group of an element stands, and what is looked up, written, put in and taken out there.
use Rattle.std.specs.BTreeMap.{insert_entry, is_at}
use Rattle.std.specs.Cmp.{IsTotalOrder}
use Rattle.std.specs.List.{AllByRecursion, insert, remove}
use Rattle.std.specs.List.Sorted.{IsStrictlySortedBy, IsNonDecreasingBy, IsPartitionPoint, IsSearchInRange, IsBinarySearchResult}
use Rattle.std.specs.Map.{keys_of, lookup, remove_entry, set_value}
use Rattle.std.specs.Ordering.{is_eq, is_lt, ordering_reverse, ordering_index, match_ordering}
use Rattle.std.proofs.Common.{◌≡◌, ℕ, zero, suc, ◌+◌, ◌<◌, ◌≤◌, List, [], ◌∷◌, true, false, length, get_or, slice_set, Some, None, is_some, Result, Ok, Err, is_ok, IfOk, IfErr, Ordering, Less, Equal, Greater, refl, sym, ap, ap₂, subst, ◌∙◌, arith}
use Rattle.std.proofs.lemmas.List.Sorted.{searchable_from_sorted}
use Rattle.std.proofs.lemmas.Map.Entries.{lookup_head, lookup_tail, length-keys_of}
use Rattle.std.proofs.lemmas.Map.Keys.{Less-from_sorted}
use Rattle.std.proofs.lemmas.Map.Lookups.{CmpEqualImpliesEq}
use Rattle.fed_stamp.specs.Stamp.{StampValue}
use Rattle.fed_tags.specs.Groups.{IsGroupOf, IsGapFor}
use Rattle.fed_tags.proofs.GroupLaws.{remove_set}

module _ {T : Type 0} (cmp : T → T → Ordering) (o : IsTotalOrder cmp) where
  turned : (x t : T) (r : Ordering) → cmp x t ≡ r → cmp t x ≡ ordering_reverse r
  turned x t r e = o.antisymm t x ∙ ap ordering_reverse e

module _ {T X : Type 0} (cmp : T → T → Ordering) (o : IsTotalOrder cmp) where
  key_at : (es : List (T × X)) (i : ℕ) (d : T × X) → get_or (keys_of es) i d.0 ≡ (get_or es i d).0
  key_at [] i d = refl
  key_at (e ∷ es) zero d = refl
  key_at (e ∷ es) (suc i) d = key_at es i d

  -- what holds of all keys holds of that at a place
  of_key : (P : T → Type 0) (es : List (T × X)) (i : ℕ) (d : T × X) → i < length es → AllByRecursion P (keys_of es) → P (get_or es i d).0
  of_key P [] i d l a = absurd (omega arith)
  of_key P (e ∷ es) zero d l a = a.0
  of_key P (e ∷ es) (suc i) d l a = of_key P es i d (omega arith) a.1

  -- entries whose keys ascend may be searched
  rises : (es : List (T × X)) (t : T) → IsStrictlySortedBy cmp (keys_of es) → IsNonDecreasingBy (λ (e : T × X). ordering_index (cmp e.0 t)) es
  rises es t s = searchable_from_sorted o (λ (e : T × X). e.0) es t (λ i d l h.
      let n : length (keys_of es) ≡ length es = length-keys_of es in
      let k : cmp (get_or (keys_of es) i d.0) (get_or (keys_of es) (i + 1) d.0) ≡ Less = Less-from_sorted cmp (keys_of es) i (i + 1) d.0 s (omega arith) (omega arith) in
      ap is_lt (turned cmp o _ _ Less (sym (ap₂ cmp (key_at es i d) (key_at es (i + 1) d)) ∙ k)))

  -- ---- no group
  gap_tail : (e : T × X) (es : List (T × X)) (t : T) (i : ℕ) → IsPartitionPoint (λ (e : T × X). cmp e.0 t ≡ Less) (λ (e : T × X). cmp e.0 t ≡ Greater) (e ∷ es) (suc i) → IsPartitionPoint (λ (e : T × X). cmp e.0 t ≡ Less) (λ (e : T × X). cmp e.0 t ≡ Greater) es i
  gap_tail e es t i p = (λ j d a b. p.0 (suc j) d (omega arith) (omega arith), λ j d a b. p.1 (suc j) d (omega arith) (omega arith))

  gap_front : (e : T × X) (es : List (T × X)) (t : T) → IsPartitionPoint (λ (e : T × X). cmp e.0 t ≡ Less) (λ (e : T × X). cmp e.0 t ≡ Greater) (e ∷ es) zero → IsPartitionPoint (λ (e : T × X). cmp e.0 t ≡ Less) (λ (e : T × X). cmp e.0 t ≡ Greater) es zero
  gap_front e es t p = (λ j d a b. absurd (omega arith), λ j d a b. p.1 (suc j) d (omega arith) (omega arith))

  pub lookup_gap : (es : List (T × X)) (t : T) (i : ℕ) → i ≤ length es → IsPartitionPoint (λ (e : T × X). cmp e.0 t ≡ Less) (λ (e : T × X). cmp e.0 t ≡ Greater) es i → None ≡ lookup (is_at (cmp t)) es
  lookup_gap [] t i l p = refl
  lookup_gap (e ∷ es) t zero l p =
      lookup_gap es t zero (omega arith) (gap_front e es t p)
      ∙ sym (lookup_tail (is_at (cmp t)) e es (ap is_eq (turned cmp o e.0 t Greater (p.1 0 e (omega arith) (omega arith)))))
  lookup_gap (e ∷ es) t (suc i) l p =
      lookup_gap es t i (omega arith) (gap_tail e es t i p)
      ∙ sym (lookup_tail (is_at (cmp t)) e es (ap is_eq (turned cmp o e.0 t Less (p.0 0 e (omega arith) (omega arith)))))

  pub insert_gap : (es : List (T × X)) (t : T) (w : X) (i : ℕ) → i ≤ length es → IsPartitionPoint (λ (e : T × X). cmp e.0 t ≡ Less) (λ (e : T × X). cmp e.0 t ≡ Greater) es i → insert es i (t, w) ≡ insert_entry cmp es t w
  insert_gap [] t w zero l p = refl
  insert_gap [] t w (suc i) l p = absurd (omega arith)
  insert_gap (e ∷ es) t w zero l p =
      sym (ap (λ r. match_ordering r ((t, w) ∷ e ∷ es) ((e.0, w) ∷ es) (e ∷ insert_entry cmp es t w)) (turned cmp o e.0 t Greater (p.1 0 e (omega arith) (omega arith))))
  insert_gap (e ∷ es) t w (suc i) l p =
      ap (λ ys. e ∷ ys) (insert_gap es t w i (omega arith) (gap_tail e es t i p))
      ∙ sym (ap (λ r. match_ordering r ((t, w) ∷ e ∷ es) ((e.0, w) ∷ es) (e ∷ insert_entry cmp es t w)) (turned cmp o e.0 t Less (p.0 0 e (omega arith) (omega arith))))

  -- ---- the group at its place
  module _ (exact : CmpEqualImpliesEq cmp) where
    later : (e : T × X) (es : List (T × X)) (t : T) (i : ℕ) (d : T × X) → i < length es → AllByRecursion (λ y. cmp e.0 y ≡ Less) (keys_of es) → cmp (get_or es i d).0 t ≡ Equal → is_eq (cmp t e.0) ≡ false
    later e es t i d l a h =
        ap is_eq (turned cmp o e.0 t Less (subst (λ (x : T). cmp e.0 x ≡ Less) (exact _ _ h) (of_key (λ y. cmp e.0 y ≡ Less) es i d l a)))

    here : (e : T × X) (t : T) → cmp e.0 t ≡ Equal → is_eq (cmp t e.0) ≡ true
    here e t h = ap is_eq (turned cmp o e.0 t Equal h)

    pub lookup_place : (es : List (T × X)) (t : T) (i : ℕ) (d : T × X) → IsStrictlySortedBy cmp (keys_of es) → i < length es → cmp (get_or es i d).0 t ≡ Equal → Some (get_or es i d).1 ≡ lookup (is_at (cmp t)) es
    unfolding IsStrictlySortedBy
    lookup_place [] t i d s l h = absurd (omega arith)
    lookup_place (e ∷ es) t zero d s l h = sym (lookup_head (is_at (cmp t)) e es (here e t h))
    lookup_place (e ∷ es) t (suc i) d s l h = lookup_place es t i d s.1 (omega arith) h ∙ sym (lookup_tail (is_at (cmp t)) e es (later e es t i d (omega arith) s.0 h))

    pub set_place : (es : List (T × X)) (t : T) (w : X) (i : ℕ) (d : T × X) → IsStrictlySortedBy cmp (keys_of es) → i < length es → cmp (get_or es i d).0 t ≡ Equal → slice_set es i ((get_or es i d).0, w) ≡ set_value (is_at (cmp t)) es w
    unfolding IsStrictlySortedBy
    set_place [] t w i d s l h = absurd (omega arith)
    set_place (e ∷ es) t w zero d s l h = rw (here e t h) refl
    set_place (e ∷ es) t w (suc i) d s l h = rw (later e es t i d (omega arith) s.0 h) (ap (λ ys. e ∷ ys) (set_place es t w i d s.1 (omega arith) h))

    pub remove_place : (es : List (T × X)) (t : T) (i : ℕ) (d : T × X) → IsStrictlySortedBy cmp (keys_of es) → i < length es → cmp (get_or es i d).0 t ≡ Equal → remove es i ≡ remove_entry (is_at (cmp t)) es
    unfolding IsStrictlySortedBy
    remove_place [] t i d s l h = absurd (omega arith)
    remove_place (e ∷ es) t zero d s l h = rw (here e t h) refl
    remove_place (e ∷ es) t (suc i) d s l h = rw (later e es t i d (omega arith) s.0 h) (ap (λ ys. e ∷ ys) (remove_place es t i d s.1 (omega arith) h))

remove_set_at : {Y : Type 0} (ys : List Y) (i : ℕ) (y : Y) → remove (slice_set ys i y) i ≡ remove ys i
remove_set_at [] i y = refl
remove_set_at (x ∷ ys) zero y = refl
remove_set_at (x ∷ ys) (suc i) y = ap (λ zs. x ∷ zs) (remove_set_at ys i y)

-- what a search finds
pub searched : {T : Type 0} (cmp : T → T → Ordering) → IsTotalOrder cmp → (es : List (T × List StampValue)) (t : T) (r : Result ℕ ℕ) → IsStrictlySortedBy cmp (keys_of es) → IsSearchInRange r (length es) → IsBinarySearchResult (λ e. cmp e.0 t) es r → IfOk r (IsGroupOf cmp es t) × IfErr r (IsGapFor cmp es t)
searched cmp o es t (Ok i) s b p = ((b, p), tt)
searched cmp o es t (Err i) s b p = (tt, (b, p (rises cmp o es t s)))

-- ---- from what a search finds
module _ {T : Type 0} (cmp : T → T → Ordering) (o : IsTotalOrder cmp) (exact : CmpEqualImpliesEq cmp) (es gs : List (T × List StampValue)) (same : gs ≡ es) (t : T) (i : ℕ) where
  gap : IsGapFor cmp gs t i → IsGapFor cmp es t i
  gap h = subst (λ (l : List (T × List StampValue)). IsGapFor cmp l t i) same h

  place : IsGroupOf cmp gs t i → IsGroupOf cmp es t i
  place h = subst (λ (l : List (T × List StampValue)). IsGroupOf cmp l t i) same h

  pub none_found : IsGapFor cmp gs t i → None ≡ lookup (is_at (cmp t)) es
  none_found h = lookup_gap cmp o es t i (gap h).0 (gap h).1

  pub put_in : (w : List StampValue) → IsGapFor cmp gs t i → insert es i (t, w) ≡ insert_entry cmp es t w
  put_in w h = insert_gap cmp o es t w i (gap h).0 (gap h).1

  module _ (sorted : IsStrictlySortedBy cmp (keys_of es)) (h : IsGroupOf cmp gs t i) (x : T × List StampValue) (at : x ≡ get_or es i x) where
    pub found_here : Some x.1 ≡ lookup (is_at (cmp t)) es
    found_here = ap (λ (y : T × List StampValue). Some y.1) at ∙ lookup_place cmp o exact es t i x sorted (place h).0 ((place h).1 x)

    pub written_here : (w : List StampValue) → slice_set es i (x.0, w) ≡ set_value (is_at (cmp t)) es w
    written_here w =
        ap (λ (y : T × List StampValue). slice_set es i (y.0, w)) at ∙ set_place cmp o exact es t w i x sorted (place h).0 ((place h).1 x)

    pub taken_here : (y : T × List StampValue) (w : List StampValue) → remove (slice_set es i y) i ≡ remove_entry (is_at (cmp t)) (set_value (is_at (cmp t)) es w)
    taken_here y w =
        remove_set_at es i y ∙ remove_place cmp o exact es t i x sorted (place h).0 ((place h).1 x) ∙ sym (remove_set cmp o exact es (is_at (cmp t)) w)

-- whether a search finds
pub is_found : {T : Type 0} (cmp : T → T → Ordering) → IsTotalOrder cmp → CmpEqualImpliesEq cmp → (es gs : List (T × List StampValue)) → gs ≡ es → (t : T) → IsStrictlySortedBy cmp (keys_of es) → (r : Result ℕ ℕ) → IfOk r (IsGroupOf cmp gs t) → IfErr r (IsGapFor cmp gs t) → is_ok r ≡ is_some (lookup (is_at (cmp t)) es)
is_found cmp o exact [] gs same t s (Ok i) f a = absurd (let h = subst (λ l. IsGroupOf cmp l t i) same f in omega (arith, h.0))
is_found cmp o exact (e ∷ es) gs same t s (Ok i) f a = let h = subst (λ l. IsGroupOf cmp l t i) same f in ap is_some (lookup_place cmp o exact (e ∷ es) t i e s h.0 (h.1 e))
is_found cmp o exact es gs same t s (Err i) f a = ap is_some (none_found cmp o exact es gs same t i a)
