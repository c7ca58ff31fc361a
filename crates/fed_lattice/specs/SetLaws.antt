-- Laws of lists as sets.
use Rattle.std.specs.List.{list_any}
use Rattle.std.proofs.Common.{◌≡◌, ◌≢◌, ◌⊎◌, List, [], ◌∷◌, ◌++◌, Bool, true, false, refl, sym, ap, subst, ◌∙◌, inl, inr}
use Rattle.std.proofs.lemmas.Bool.{or_cases, or_left, or_right, cases_Bool, both_ways}
use Rattle.fed_lattice.specs.Sets.{Has, IsSameSet}

module _ {A : Type 0} where
  pub Has-left : (xs ys : List A) (x : A) → Has xs x → Has (xs ++ ys) x
  Has-left [] ys x h = absurd h
  Has-left (y ∷ xs) ys x (inl e) = inl e
  Has-left (y ∷ xs) ys x (inr h) = inr (Has-left xs ys x h)

  pub Has-right : (xs ys : List A) (x : A) → Has ys x → Has (xs ++ ys) x
  Has-right [] ys x h = h
  Has-right (y ∷ xs) ys x h = inr (Has-right xs ys x h)

  -- a member of a union is a member of one of the two
  pub Has-cases : (xs ys : List A) (x : A) → Has (xs ++ ys) x → Has xs x ⊎ Has ys x
  Has-cases [] ys x h = inr h
  Has-cases (y ∷ xs) ys x (inl e) = inl (inl e)
  Has-cases (y ∷ xs) ys x (inr h) = elim (Has-cases xs ys x h) [ inl p ↦ inl (inr p) | inr q ↦ inr q ]

  -- of a list of one
  pub Has-only : (y x : A) → Has (y ∷ []) x → y ≡ x
  Has-only y x (inl e) = e
  Has-only y x (inr h) = absurd h

  pub Has-last : (xs : List A) (y : A) → Has (xs ++ y ∷ []) y
  Has-last xs y = Has-right xs (y ∷ []) y (inl refl)

  -- a member after one more
  pub Has-push : (xs : List A) (y x : A) → Has (xs ++ y ∷ []) x → Has xs x ⊎ (y ≡ x)
  Has-push xs y x h = elim (Has-cases xs (y ∷ []) x h) [ inl p ↦ inl p | inr q ↦ inr (Has-only y x q) ]

  pub same_itself : (xs : List A) → IsSameSet xs xs
  same_itself xs = (λ x h. h, λ x h. h)

  pub same_swap : (xs ys : List A) → IsSameSet xs ys → IsSameSet ys xs
  same_swap xs ys s = (s.1, s.0)

  pub same_union_comm : (xs ys : List A) → IsSameSet (xs ++ ys) (ys ++ xs)
  same_union_comm xs ys = (turned ys xs, turned xs ys) where
    turned : (us vs : List A) (x : A) → Has (us ++ vs) x → Has (vs ++ us) x
    turned us vs x h = elim (Has-cases us vs x h) [ inl p ↦ Has-right vs us x p | inr q ↦ Has-left vs us x q ]

  -- ---- the empty set
  pub empty_from_none : (xs : List A) → ((x : A) → Has xs x → ⊥) → xs ≡ []
  empty_from_none [] f = refl
  empty_from_none (x ∷ xs) f = absurd (f x (inl refl))

  -- a set that is included in the empty one is empty
  pub empty_from_same : (xs ys : List A) → IsSameSet xs ys → xs ≡ [] → ys ≡ []
  empty_from_same xs ys s e = empty_from_none ys (λ x h. subst (λ l. Has l x) e (s.0 x h))

  pub not_empty_left : (xs ys : List A) → xs ≢ [] → (xs ++ ys) ≢ []
  not_empty_left [] ys f = absurd (f refl)
  not_empty_left (x ∷ xs) ys f = λ e. cc

  pub not_empty_right : (xs ys : List A) → ys ≢ [] → (xs ++ ys) ≢ []
  not_empty_right [] ys f = f
  not_empty_right (x ∷ xs) ys f = λ e. cc

  pub not_empty_same : (xs ys : List A) → IsSameSet xs ys → xs ≢ [] → ys ≢ []
  not_empty_same xs ys s f = λ e. f (empty_from_same ys xs (same_swap xs ys s) e)

  -- ---- tests of members
  -- where some member passes a test, one is found
  pub found : (p : A → Bool) (xs : List A) → list_any p xs ≡ true → (x : A) × Has xs x × (p x ≡ true)
  found p [] e = absurd (both_ways false refl e)
  found p (y ∷ xs) e =
      let h = found p xs in
      elim (or_cases (p y) (list_any p xs) e) [ inl t ↦ (y, inl refl, t) | inr t ↦ (let r = h t in (r.0, inr r.1, r.2)) ]

  pub any_from : (p : A → Bool) (xs : List A) (x : A) → Has xs x → p x ≡ true → list_any p xs ≡ true
  any_from p [] x h t = absurd h
  any_from p (y ∷ xs) x (inl e) t = or_left (p y) (list_any p xs) (ap p e ∙ t)
  any_from p (y ∷ xs) x (inr h) t = or_right (p y) (list_any p xs) (any_from p xs x h t)

  -- whether some member passes a test depends on the members alone
  pub any_same : (p q : A → Bool) (xs ys : List A) → ((x : A) → p x ≡ q x) → IsSameSet xs ys → list_any p xs ≡ list_any q ys
  any_same p q xs ys e s = elim (cases_Bool (list_any p xs)) [
    | inl t ↦ (let f = found p xs t in t ∙ sym (any_from q ys f.0 (s.1 f.0 f.1) (sym (e f.0) ∙ f.2)))
    | inr t ↦ elim (cases_Bool (list_any q ys)) [
      | inl u ↦ (let f = found q ys u in absurd (both_ways _ t (any_from p xs f.0 (s.0 f.0 f.1) (e f.0 ∙ f.2))))
      | inr u ↦ t ∙ sym u
    ]
  ]
