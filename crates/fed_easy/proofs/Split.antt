-- A step that is put between steps.
use Rattle.std.specs.List.{insert}
use Rattle.std.proofs.Common.{◌≡◌, ◌⊎◌, ℕ, suc, ◌<◌, Bool, true, false, cond, leb, List, [], ◌∷◌, ◌++◌, length, take, drop, drop-cons, refl, sym, arith, inl, inr}
use Rattle.std.specs.Prelude.{nat_eq, nat_lt, slice_index_or}
use Rattle.std.proofs.lemmas.Bool.{le-leb, lt-leb, lt-ltb, le-ltb, eq-eqb, ne_eqb, cases_lt, cases_eq, or_left, or_right, or_cases}
use Rattle.fed_easy.specs.declared.profiles.Step.{Step}
use Rattle.fed_easy.specs.Profile.{IsAfter, is_step, level_at}

module _ (second : ℕ) where
  abbrev pub split_at : ℕ → List Step → List Step
  split_at n [] = record { from = second; nodes = n } ∷ []
  split_at n (s ∷ ss) = cond (nat_lt s.from second) (s ∷ split_at s.nodes ss) (cond (nat_eq s.from second) (s ∷ ss) (record { from = second; nodes = n } ∷ (s ∷ ss)))

  -- the cases of a list of steps
  split_cases : (P : List Step → Type 0) (n : ℕ) (s : Step) (ss : List Step) → (s.from < second → P (s ∷ split_at s.nodes ss)) → (s.from ≡ second → P (s ∷ ss))
      → (second < s.from → P (record { from = second; nodes = n } ∷ (s ∷ ss))) → P (split_at n (s ∷ ss))
  split_cases P n s ss early here late =
      elim (cases_lt s.from second) [
        | inl lt ↦ rw (lt-ltb s.from second lt) (early lt)
        | inr le ↦ rw (le-ltb s.from second le) (elim (cases_eq s.from second) [
          | inl e ↦ rw (eq-eqb s.from second e) (here e)
          | inr other ↦ rw (ne_eqb s.from second other) (late (elim (cases_lt second s.from) [ inl lt ↦ lt | inr back ↦ absurd (other (omega arith)) ]))
        ])
      ]

  pub split_same : (n : ℕ) (ss : List Step) (u : ℕ) → level_at n (split_at n ss) u ≡ level_at n ss u
  split_same n [] u = put_same n (leb second u)
    where
      put_same : (n : ℕ) (t : Bool) → cond t n n ≡ n
      put_same n true = refl
      put_same n false = refl
  split_same n (s ∷ ss) u =
      split_cases (λ new. level_at n new u ≡ level_at n (s ∷ ss) u) n s ss
      (λ lt. rw (split_same s.nodes ss u) refl)
      (λ e. refl)
      (λ late. elim (cases_lt u second) [
        | inl before ↦ rw (lt-leb second u before, lt-leb s.from u (omega arith)) refl
        | inr from ↦ rw (le-leb second u from) refl
      ])

  pub split_after : (n t : ℕ) (ss : List Step) → t < second → IsAfter t ss → IsAfter t (split_at n ss)
  split_after n t [] lt after = (lt, tt)
  split_after n t (s ∷ ss) lt after =
      split_cases (λ new. IsAfter t new) n s ss
      (λ early. (after.0, split_after s.nodes s.from ss early after.1))
      (λ e. after)
      (λ late. (lt, (late, after.1)))

  pub split_is_step : (n : ℕ) (ss : List Step) → is_step second (split_at n ss) ≡ true
  split_is_step n [] = or_left (nat_eq second second) false (eq-eqb second second refl)
  split_is_step n (s ∷ ss) =
      split_cases (λ new. is_step second new ≡ true) n s ss
      (λ early. or_right (nat_eq s.from second) (is_step second (split_at s.nodes ss)) (split_is_step s.nodes ss))
      (λ e. or_left (nat_eq s.from second) (is_step second ss) (eq-eqb s.from second e))
      (λ late. or_left (nat_eq second second) (is_step second (s ∷ ss)) (eq-eqb second second refl))

  pub split_kept : (n t : ℕ) (ss : List Step) → is_step t ss ≡ true → is_step t (split_at n ss) ≡ true
  split_kept n t [] e = absurd cc
  split_kept n t (s ∷ ss) e =
      split_cases (λ new. is_step t new ≡ true) n s ss
      (λ early. elim (or_cases (nat_eq s.from t) (is_step t ss) e) [
        | inl here ↦ or_left (nat_eq s.from t) (is_step t (split_at s.nodes ss)) here
        | inr later ↦ or_right (nat_eq s.from t) (is_step t (split_at s.nodes ss)) (split_kept s.nodes t ss later)
      ])
      (λ same. e)
      (λ late. or_right (nat_eq second t) (is_step t (s ∷ ss)) e)

  pub inserted : (ss : List Step) (n level k : ℕ) → split_at n ss ≡ take k ss ++ split_at level (drop k ss)
      → (drop k ss ≡ []) ⊎ ((k < length ss) × (second < (slice_index_or ss k (record { from = 0; nodes = 0 })).from))
      → insert ss k (record { from = second; nodes = level }) ≡ split_at n ss
  inserted ss n level k same (inl none) =
      let put : split_at n ss ≡ take k ss ++ record { from = second; nodes = level } ∷ [] = rw none at same in
      rw none (sym put)
  inserted ss n level k same (inr late) =
      let x : Step = slice_index_or ss k (record { from = 0; nodes = 0 }) in
      let rest : drop k ss ≡ x ∷ drop (suc k) ss = drop-cons ss k (record { from = 0; nodes = 0 }) late.0 in
      let put : split_at level (drop k ss) ≡ record { from = second; nodes = level } ∷ drop k ss =
      rw (rest, le-ltb x.from second (omega (arith, late.1)), ne_eqb x.from second (λ e. omega (arith, late.1))) refl in
      sym (rw put at same)
