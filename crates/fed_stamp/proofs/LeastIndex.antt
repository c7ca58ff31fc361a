-- On the least index that passes a test.
use Rattle.std.proofs.Common.{◌≡◌, ℕ, zero, suc, ◌+◌, ◌<◌, ◌≤◌, Bool, true, false, Option, Some, None, is_some, refl, inl, inr, arith}
use Rattle.std.proofs.lemmas.Bool.{cases_eq, cases_Bool, false≢true}
use Rattle.std.specs.List.{find, range_with_len}
use Rattle.fed_stamp.specs.Indexes.{least_index}

some_from_not_none : (o : Option ℕ) → (o ≡ None → ⊥) → is_some o ≡ true
some_from_not_none None h = absurd (h refl)
some_from_not_none (Some i) h = refl

pub none_from_not_some : (o : Option ℕ) → is_some o ≡ false → o ≡ None
none_from_not_some None h = refl
none_from_not_some (Some i) h = cc

module _ (test : ℕ → Bool) where
  find_first : (a n i : ℕ) → a ≤ i → i < a + n → test i ≡ true → ((k : ℕ) → a ≤ k → k < i → test k ≡ false) → Some i ≡ find test (range_with_len a n)
  find_first a zero i l u t h = absurd (omega arith)
  find_first a (suc n) i l u t h = elim (cases_eq a i) [
    | inl e ↦ let f : test a ≡ true = rw (e) t in rw (f, e) refl
    | inr d ↦ rw (h a (omega arith) (omega arith)) (find_first (a + 1) n i (omega arith) (omega arith) t (λ k p q. h k (omega arith) q))
  ]

  find_none : (a n : ℕ) → ((k : ℕ) → a ≤ k → k < a + n → test k ≡ false) → None ≡ find test (range_with_len a n)
  find_none a zero h = refl
  find_none a (suc n) h = rw (h a (omega arith) (omega arith)) (find_none (a + 1) n (λ k p q. h k (omega arith) (omega arith)))

  none_passes : (a n : ℕ) → find test (range_with_len a n) ≡ None → (k : ℕ) → a ≤ k → k < a + n → test k ≡ false
  none_passes a zero e k l u = absurd (omega arith)
  none_passes a (suc n) e k l u = elim (cases_Bool (test a)) [
    | inl t ↦ absurd (let s = rw (t) at e in cc)
    | inr f ↦ elim (cases_eq a k) [
      | inl s ↦ rw (← s) f
      | inr d ↦ none_passes (a + 1) n (rw (f) at e) k (omega arith) (omega arith)
    ]
  ]

  -- from what a loop finds, and what it leaves
  pub least_index_found : (n i : ℕ) → i < n → test i ≡ true → ((k : ℕ) → k < i → test k ≡ false) → Some i ≡ least_index test n
  least_index_found n i l t h = find_first 0 n i (omega arith) (omega arith) t (λ k p q. h k q)

  pub least_index_none : (n : ℕ) → ((k : ℕ) → k < n → test k ≡ false) → None ≡ least_index test n
  least_index_none n h = find_none 0 n (λ k p q. h k (omega arith))

  pub none_below : (n : ℕ) → least_index test n ≡ None → (k : ℕ) → k < n → test k ≡ false
  none_below n e k l = none_passes 0 n e k (omega arith) (omega arith)

  pub some_below : (n i : ℕ) → i < n → test i ≡ true → is_some (least_index test n) ≡ true
  some_below n i l t = some_from_not_none _ (λ e. false≢true (let f : test i ≡ false = none_below n e i l in cc))
