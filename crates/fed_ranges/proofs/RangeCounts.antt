-- How many ranges a list has, counted by the numbers after which one starts.
use Rattle.std.specs.Prelude.{count_by, cond, ◌&&◌}
use Rattle.std.specs.List.{range_with_len}
use Rattle.std.proofs.Common.{◌≡◌, ℕ, zero, suc, ◌+◌, ◌≤◌, ◌<◌, ◌==◌, List, [], ◌∷◌, length, Bool, true, false, not, ◌||◌, refl, sym, ap, subst, ◌∙◌, inl, inr, arith}
use Rattle.std.proofs.lemmas.Bool.{cases_Bool, cases_eq, cases_lt, eq-eqb, ne_eqb}
use Rattle.std.proofs.lemmas.List.Sums.{sum_by-cons}
use Rattle.std.proofs.Math.Bool.{or-false, and-false}
use Rattle.fed_ranges.specs.declared.ranges.Range.{Range}
use Rattle.fed_ranges.specs.Ranges.{is_in, has, AreApart, EndBy, starts_after}
use Rattle.fed_ranges.specs.RangeLaws.{in_low, in_high, in_from, none_below}

first_counted : (p : ℕ → Bool) (a n : ℕ) → count_by p (range_with_len a (suc n)) ≡ cond (p a) 1 0 + count_by p (range_with_len (a + 1) n)
first_counted p a n = sum_by-cons (λ x. cond (p x) 1 0) a (range_with_len (a + 1) n)

-- tests that agree from the number on
agree_from : (p q : ℕ → Bool) (n a : ℕ) → ((k : ℕ) → a ≤ k → p k ≡ q k) → count_by p (range_with_len a n) ≡ count_by q (range_with_len a n)
agree_from p q zero a same = refl
agree_from p q (suc n) a same =
    let rest : count_by p (range_with_len (a + 1) n) ≡ count_by q (range_with_len (a + 1) n) = agree_from p q n (a + 1) (λ k h. same k (omega arith)) in
    let head : ◌≡◌ {A = ℕ} (cond (p a) 1 0) (cond (q a) 1 0) = ap (λ b. cond {A = ℕ} b 1 0) (same a (omega arith)) in
    omega (arith, first_counted p a n, first_counted q a n)

none_counted : (n a : ℕ) → count_by (λ (k : ℕ). false) (range_with_len a n) ≡ 0
none_counted zero a = refl
none_counted (suc n) a = let h : count_by (λ (k : ℕ). false) (range_with_len (a + 1) n) ≡ 0 = none_counted n (a + 1) in omega (arith, first_counted (λ (k : ℕ). false) a n)

-- beyond the first range the others are counted
beyond_first : (r : Range) (rs : List Range) (n : ℕ) → r.last < n → has (r ∷ rs) n ≡ has rs n
beyond_first r rs n far = ap (λ b. b || has rs n) (out (is_in r n) refl)
  where
    out : (b : Bool) → is_in r n ≡ b → is_in r n ≡ false
    out true e = let h = in_high r n e in absurd (omega arith)
    out false e = e

-- up to its end the first range alone is counted
within_first : (r : Range) (rs : List Range) (n : ℕ) → AreApart (r.last + 2) rs → n ≤ r.last + 1 → has (r ∷ rs) n ≡ is_in r n
within_first r rs n a near = ap (λ b. is_in r n || b) (none_below (r.last + 2) rs n a (omega arith)) ∙ or-false (is_in r n)

-- up to its end a range starts after the number before its first alone
start_is : (r : Range) (k : ℕ) → r.first ≤ r.last → k ≤ r.last → (not (is_in r k) && is_in r (suc k)) ≡ (r.first == suc k)
start_is r k some near = elim (cases_eq r.first (suc k)) [
  | inl e ↦ (
      let a : is_in r k ≡ false = out k (omega arith) in
      let b : is_in r (suc k) ≡ true = in_from r (suc k) (omega arith) (omega arith) in
      (λ i. not (a i) && b i) ∙ sym (eq-eqb r.first (suc k) e))
  | inr d ↦ elim (cases_lt (suc k) r.first) [
    | inl l ↦ (let b : is_in r (suc k) ≡ false = out (suc k) l in ap (λ x. not (is_in r k) && x) b ∙ and-false (not (is_in r k)) ∙ sym (ne_eqb r.first (suc k) d))
    | inr l ↦ (let a : is_in r k ≡ true = in_from r k (omega arith) near in ap (λ x. not x && is_in r (suc k)) a ∙ sym (ne_eqb r.first (suc k) d))
  ]
]
  where
    out : (n : ℕ) → n < r.first → is_in r n ≡ false
    out n below = elim (cases_Bool (is_in r n)) [ inl e ↦ (let h = in_low r n e in absurd (omega arith)) | inr e ↦ e ]

first_at : (r : Range) (rs : List Range) (k : ℕ) → r.first ≤ r.last → AreApart (r.last + 2) rs → k ≤ r.last → starts_after (r ∷ rs) k ≡ (r.first == suc k)
first_at r rs k some apart near = (λ i. not (within_first r rs k apart (omega arith) i) && within_first r rs (suc k) apart (omega arith) i) ∙ start_is r k some near

pub end_same : (xs : List Range) (a b : ℕ) → a ≡ b → EndBy a xs → EndBy b xs
end_same xs a b e h = subst (λ m. EndBy m xs) e h

-- inside a range none starts, and beyond it those of the others do
inside : (r : Range) (rs : List Range) → r.first ≤ r.last → AreApart (r.last + 2) rs
    → ((m b : ℕ) → AreApart (b + 1) rs → EndBy (b + m) rs → count_by (starts_after rs) (range_with_len b m) ≡ length rs)
    → (n a : ℕ) → r.first ≤ a → a ≤ r.last + 1 → EndBy (a + n) rs → r.last ≤ a + n → count_by (starts_after (r ∷ rs)) (range_with_len a n) ≡ length rs
inside r [] some apart counted zero a from upto ends last = refl
inside r (s ∷ rs) some apart counted zero a from upto ends last = let f = apart.0 in let g = apart.1 in let e = ends.0 in absurd (omega arith)
inside r rs some apart counted (suc n) a from upto ends last = elim (cases_lt r.last a) [
  | inl l ↦ (
      let is : a ≡ r.last + 1 = omega arith in
      agree_from (starts_after (r ∷ rs)) (starts_after rs) (suc n) a (λ k h i. not (beyond_first r rs k (omega arith) i) && beyond_first r rs (suc k) (omega arith) i)
      ∙ counted (suc n) a (subst (λ m. AreApart m rs) (omega arith) apart) ends)
  | inr l ↦ (
      let none : starts_after (r ∷ rs) a ≡ false = first_at r rs a some apart l ∙ ne_eqb r.first (suc a) (λ e. omega arith) in
      let head : ◌≡◌ {A = ℕ} (cond (starts_after (r ∷ rs) a) 1 0) 0 = ap (λ b. cond {A = ℕ} b 1 0) none in
      let rest : count_by (starts_after (r ∷ rs)) (range_with_len (a + 1) n) ≡ length rs = inside r rs some apart counted n (a + 1) (omega arith) (omega arith) (end_same rs (a + suc n) (a + 1 + n) (omega arith) ends) (omega arith) in
      omega (arith, first_counted (starts_after (r ∷ rs)) a n))
]

-- the ranges are counted by the numbers after which one starts
pub counted_ranges : (rs : List Range) (n a : ℕ) → AreApart (a + 1) rs → EndBy (a + n) rs → count_by (starts_after rs) (range_with_len a n) ≡ length rs
counted_ranges [] n a apart ends = none_counted n a
counted_ranges (r ∷ rs) zero a apart ends = let f = apart.0 in let g = apart.1 in let e = ends.0 in absurd (omega arith)
counted_ranges (r ∷ rs) (suc n) a apart ends = elim (cases_eq r.first (suc a)) [
  | inl e ↦ (
      let some = apart.1 in
      let last = ends.0 in
      let one : starts_after (r ∷ rs) a ≡ true = first_at r rs a apart.1 apart.2 (omega arith) ∙ eq-eqb r.first (suc a) e in
      let head : ◌≡◌ {A = ℕ} (cond (starts_after (r ∷ rs) a) 1 0) 1 = ap (λ b. cond {A = ℕ} b 1 0) one in
      let rest : count_by (starts_after (r ∷ rs)) (range_with_len (a + 1) n) ≡ length rs = inside r rs apart.1 apart.2 (λ m b. counted_ranges rs m b) n (a + 1) (omega arith) (omega arith) (end_same rs (a + suc n) (a + 1 + n) (omega arith) ends.1) (omega arith) in
      omega (arith, first_counted (starts_after (r ∷ rs)) a n))
  | inr d ↦ (
      let f = apart.0 in
      let some = apart.1 in
      let none : starts_after (r ∷ rs) a ≡ false = first_at r rs a apart.1 apart.2 (omega arith) ∙ ne_eqb r.first (suc a) d in
      let head : ◌≡◌ {A = ℕ} (cond (starts_after (r ∷ rs) a) 1 0) 0 = ap (λ b. cond {A = ℕ} b 1 0) none in
      let rest : count_by (starts_after (r ∷ rs)) (range_with_len (a + 1) n) ≡ suc (length rs) = counted_ranges (r ∷ rs) n (a + 1) (omega arith, apart.1, apart.2) (end_same (r ∷ rs) (a + suc n) (a + 1 + n) (omega arith) ends) in
      omega (arith, first_counted (starts_after (r ∷ rs)) a n))
]
