-- Lists of ranges: what they have, that they stay apart, and that there is one for each set of numbers.
use Rattle.std.specs.Prelude.{min, max, nat_le, if◌then◌else◌}
use Rattle.std.proofs.Common.{◌≡◌, ℕ, zero, suc, length, slice_index_or, ◌+◌, ◌≤◌, ◌<◌, List, [], ◌∷◌, Bool, true, false, ◌||◌, refl, sym, ap, subst, ◌∙◌, inl, inr, arith}
use Rattle.std.proofs.lemmas.Bool.{and_parts, and_from, both_ways, cases_Bool, cases_lt, le-leb, leb-true, ltb-true, ltb-false, or_cases, or_left, or_right}
use Rattle.fed_ranges.specs.declared.ranges.Range.{Range}
use Rattle.fed_ranges.specs.Ranges.{is_in, has, AreApart, IsCanonical, is_before, both, added, joined}

pub same_bits : (a b : Bool) → (a ≡ true → b ≡ true) → (b ≡ true → a ≡ true) → a ≡ b
same_bits true b f g = sym (f refl)
same_bits false true f g = g refl
same_bits false false f g = refl

-- ---- one range
pub in_low : (r : Range) (n : ℕ) → is_in r n ≡ true → r.first ≤ n
in_low r n e = leb-true r.first n (and_parts (nat_le r.first n) (nat_le n r.last) e).0

pub in_high : (r : Range) (n : ℕ) → is_in r n ≡ true → n ≤ r.last
in_high r n e = leb-true n r.last (and_parts (nat_le r.first n) (nat_le n r.last) e).1

pub in_from : (r : Range) (n : ℕ) → r.first ≤ n → n ≤ r.last → is_in r n ≡ true
in_from r n p q = and_from (nat_le r.first n) (nat_le n r.last) (le-leb r.first n p) (le-leb n r.last q)

-- ranges that touch have together what they have as one
in_both : (c r : Range) (n : ℕ) → is_before r c ≡ false → is_before c r ≡ false → c.first ≤ c.last → r.first ≤ r.last → is_in (both c r) n ≡ (is_in c n || is_in r n)
in_both c r n p q one two =
    let a : c.first ≤ r.last + 1 = ltb-false (r.last + 1) c.first p in
    let b : r.first ≤ c.last + 1 = ltb-false (c.last + 1) r.first q in
    same_bits (is_in (both c r) n) (is_in c n || is_in r n)
    (λ e.
    let low : min c.first r.first ≤ n = in_low (both c r) n e in
    let high : n ≤ max c.last r.last = in_high (both c r) n e in
    elim (cases_lt n c.first) [
      | inl l ↦ or_right (is_in c n) (is_in r n) (in_from r n (omega arith) (omega arith))
      | inr l ↦ elim (cases_lt c.last n) [
        | inl h ↦ or_right (is_in c n) (is_in r n) (in_from r n (omega arith) (omega arith))
        | inr h ↦ or_left (is_in c n) (is_in r n) (in_from c n (omega arith) (omega arith))
      ]
    ])
    (λ e. elim (or_cases (is_in c n) (is_in r n) e) [
      | inl x ↦ (let l = in_low c n x in let h = in_high c n x in in_from (both c r) n (omega arith) (omega arith))
      | inr x ↦ (let l = in_low r n x in let h = in_high r n x in in_from (both c r) n (omega arith) (omega arith))
    ])

-- ---- ranges that are apart
apart_less : (low high : ℕ) (rs : List Range) → low ≤ high → AreApart high rs → AreApart low rs
apart_less low high [] le a = tt
apart_less low high (r ∷ rs) le a = let f = a.0 in (omega arith, a.1, a.2)

pub none_below : (low : ℕ) (rs : List Range) (n : ℕ) → AreApart low rs → n < low → has rs n ≡ false
none_below low [] n a less = refl
none_below low (r ∷ rs) n a less = elim (cases_Bool (has (r ∷ rs) n)) [
  | inr e ↦ e
  | inl e ↦ elim (or_cases (is_in r n) (has rs n) e) [
    | inl x ↦ (let l = in_low r n x in let f = a.0 in absurd (omega arith))
    | inr x ↦ (let f = a.0 in let g = a.1 in absurd (both_ways (has rs n) (none_below (r.last + 2) rs n a.2 (omega arith)) x))
  ]
]

-- ---- one range more
or_swap : (a b c : Bool) → (a || (b || c)) ≡ (b || (a || c))
or_swap a b c = grind arith

or_group : (a b c d : Bool) → d ≡ (a || b) → (d || c) ≡ (a || (b || c))
or_group a b c d e = grind (arith, e)

pub added_has : (low : ℕ) (c : Range) (rs : List Range) (n : ℕ) → c.first ≤ c.last → AreApart low rs → has (added c rs) n ≡ (is_in c n || has rs n)
added_has low c [] n one a = refl
added_has low c (r ∷ rs) n one a = go (λ d le. added_has (r.last + 2) d rs n le a.2) (is_before r c) refl (is_before c r) refl
  where
    go : ((d : Range) → d.first ≤ d.last → has (added d rs) n ≡ (is_in d n || has rs n)) → (p : Bool) → is_before r c ≡ p → (q : Bool) → is_before c r ≡ q
        → has (if p then r ∷ added c rs else if q then c ∷ added r rs else added (both c r) rs) n ≡ (is_in c n || (is_in r n || has rs n))
    go ih true e q f = ap (λ b. is_in r n || b) (ih c one) ∙ or_swap (is_in r n) (is_in c n) (has rs n)
    go ih false e true f = ap (λ b. is_in c n || b) (ih r a.1)
    go ih false e false f =
        let two = a.1 in
        ih (both c r) (omega arith)
        ∙ or_group (is_in c n) (is_in r n) (has rs n) (is_in (both c r) n) (in_both c r n e f one two)

pub added_apart : (low : ℕ) (c : Range) (rs : List Range) → low ≤ c.first → c.first ≤ c.last → AreApart low rs → AreApart low (added c rs)
added_apart low c [] le one a = (le, one, tt)
added_apart low c (r ∷ rs) le one a = go (λ from d. added_apart from d rs) (is_before r c) refl (is_before c r) refl
  where
    go : ((from : ℕ) (d : Range) → from ≤ d.first → d.first ≤ d.last → AreApart from rs → AreApart from (added d rs)) → (p : Bool) → is_before r c ≡ p → (q : Bool) → is_before c r ≡ q
        → AreApart low (if p then r ∷ added c rs else if q then c ∷ added r rs else added (both c r) rs)
    go ih true e q f =
        let above = ltb-true (r.last + 1) c.first e in
        (a.0, a.1, ih (r.last + 2) c (omega arith) one a.2)
    go ih false e true f =
        let above = ltb-true (c.last + 1) r.first f in
        let two = a.1 in
        (le, one, ih (c.last + 2) r (omega arith) a.1 (apart_less (c.last + 2) (r.last + 2) rs (omega arith) a.2))
    go ih false e false f =
        let two = a.1 in
        let from = a.0 in
        ih low (both c r) (omega arith) (omega arith) (apart_less low (r.last + 2) rs (omega arith) a.2)

-- ---- unions
or_more : (a b c : Bool) → ((b || a) || c) ≡ (a || (b || c))
or_more a b c = grind arith

pub joined_apart : (rs ss : List Range) (low : ℕ) → IsCanonical rs → AreApart low ss → IsCanonical (joined rs ss)
joined_apart rs [] low a b = a
joined_apart rs (s ∷ ss) low a b = joined_apart (added s rs) ss (s.last + 2) (added_apart 0 s rs (omega arith) b.1 a) b.2

pub joined_has : (rs ss : List Range) (low n : ℕ) → IsCanonical rs → AreApart low ss → has (joined rs ss) n ≡ (has rs n || has ss n)
joined_has rs [] low n a b = or_false (has rs n)
  where
    or_false : (x : Bool) → x ≡ (x || false)
    or_false true = refl
    or_false false = refl
joined_has rs (s ∷ ss) low n a b =
    joined_has (added s rs) ss (s.last + 2) n (added_apart 0 s rs (omega arith) b.1 a) b.2
    ∙ ap (λ x. x || has ss n) (added_has 0 s rs n b.1 a)
    ∙ or_more (has rs n) (is_in s n) (has ss n)

-- ---- one list for each set
has_first : (r : Range) (rs : List Range) → r.first ≤ r.last → has (r ∷ rs) r.first ≡ true
has_first r rs le = or_left (is_in r r.first) (has rs r.first) (in_from r r.first (omega arith) le)

has_last : (r : Range) (rs : List Range) (n : ℕ) → r.first ≤ n → n ≤ r.last → has (r ∷ rs) n ≡ true
has_last r rs n low high = or_left (is_in r n) (has rs n) (in_from r n low high)

-- the number after a range is in none
after_first : (r : Range) (rs : List Range) (n : ℕ) → AreApart (r.last + 2) rs → n ≡ r.last + 1 → has (r ∷ rs) n ≡ false
after_first r rs n a e = elim (cases_Bool (has (r ∷ rs) n)) [
  | inr f ↦ f
  | inl f ↦ elim (or_cases (is_in r n) (has rs n) f) [
    | inl x ↦ (let h = in_high r n x in absurd (omega arith))
    | inr x ↦ absurd (both_ways (has rs n) (none_below (r.last + 2) rs n a (omega arith)) x)
  ]
]

-- neither of two lists with the same numbers starts before the other, nor ends its first range before
starts_least : (low : ℕ) (r s : Range) (rs ss : List Range) → AreApart low (r ∷ rs) → AreApart low (s ∷ ss) → ((n : ℕ) → has (r ∷ rs) n ≡ has (s ∷ ss) n) → r.first < s.first → ⊥
starts_least low r s rs ss a b same less =
    both_ways (has (s ∷ ss) r.first) (none_below s.first (s ∷ ss) r.first (omega arith, b.1, b.2) less) (sym (same r.first) ∙ has_first r rs a.1)

ends_least : (low : ℕ) (r s : Range) (rs ss : List Range) → AreApart low (r ∷ rs) → AreApart low (s ∷ ss) → ((n : ℕ) → has (r ∷ rs) n ≡ has (s ∷ ss) n) → r.first ≡ s.first → r.last < s.last → ⊥
ends_least low r s rs ss a b same first less =
    let one = a.1 in
    both_ways (has (r ∷ rs) (r.last + 1)) (after_first r rs (r.last + 1) a.2 refl) (same (r.last + 1) ∙ has_last s ss (r.last + 1) (omega arith) (omega arith))

pub one_list : (low : ℕ) (rs ss : List Range) → AreApart low rs → AreApart low ss → ((n : ℕ) → has rs n ≡ has ss n) → rs ≡ ss
one_list low [] [] a b same = refl
one_list low [] (s ∷ ss) a b same = absurd (both_ways (has (s ∷ ss) s.first) (sym (same s.first)) (has_first s ss b.1))
one_list low (r ∷ rs) [] a b same = absurd (both_ways (has (r ∷ rs) r.first) (same r.first) (has_first r rs a.1))
one_list low (r ∷ rs) (s ∷ ss) a b same =
    let back : (n : ℕ) → has (s ∷ ss) n ≡ has (r ∷ rs) n = λ n. sym (same n) in
    let first : r.first ≡ s.first = elim (cases_lt r.first s.first) [
      | inl l ↦ absurd (starts_least low r s rs ss a b same l)
      | inr l ↦ elim (cases_lt s.first r.first) [ inl k ↦ absurd (starts_least low s r ss rs b a back k) | inr k ↦ omega arith ]
    ] in
    let last : r.last ≡ s.last = elim (cases_lt r.last s.last) [
      | inl l ↦ absurd (ends_least low r s rs ss a b same first l)
      | inr l ↦ elim (cases_lt s.last r.last) [ inl k ↦ absurd (ends_least low s r ss rs b a back (sym first) k) | inr k ↦ omega arith ]
    ] in
    let range : r ≡ s = (λ i. record { first = first i; last = last i }) in
    let there : AreApart (r.last + 2) ss = subst (λ n. AreApart (n + 2) ss) (sym last) b.2 in
    let rest : rs ≡ ss = one_list (r.last + 2) rs ss a.2 there (λ n. rest_same low r s rs ss n a b same range there) in
    (λ i. range i ∷ rest i)
  where
    rest_same : (low : ℕ) (r s : Range) (rs ss : List Range) (n : ℕ) → AreApart low (r ∷ rs) → AreApart low (s ∷ ss) → ((k : ℕ) → has (r ∷ rs) k ≡ has (s ∷ ss) k) → r ≡ s → AreApart (r.last + 2) ss → has rs n ≡ has ss n
    rest_same low r s rs ss n a b same range there = elim (cases_lt n (r.last + 2)) [
      | inl l ↦ none_below (r.last + 2) rs n a.2 l ∙ sym (none_below (r.last + 2) ss n there l)
      | inr l ↦ (
          let out : is_in r n ≡ false = elim (cases_Bool (is_in r n)) [ inl x ↦ (let h = in_high r n x in absurd (omega arith)) | inr x ↦ x ] in
          let out_too : is_in s n ≡ false = subst (λ x. is_in x n ≡ false) range out in
          only (is_in r n) (has rs n) (is_in s n) (has ss n) out out_too (same n))
    ]
      where
        only : (p x q y : Bool) → p ≡ false → q ≡ false → (p || x) ≡ (q || y) → x ≡ y
        only p x q y e f g = grind (arith, e, f, g)

or_grouped : (a b c x y : Bool) → x ≡ (a || b) → y ≡ (b || c) → (x || c) ≡ (a || y)
or_grouped a b c x y e f = grind (arith, e, f)

or_turned : (a b : Bool) → (a || b) ≡ (b || a)
or_turned a b = grind arith

or_once : (a : Bool) → (a || a) ≡ a
or_once a = grind arith

pub joined_assoc : (rs ss ts : List Range) → IsCanonical rs → IsCanonical ss → IsCanonical ts → joined (joined rs ss) ts ≡ joined rs (joined ss ts)
joined_assoc rs ss ts a b c =
    let ab = joined_apart rs ss 0 a b in
    let bc = joined_apart ss ts 0 b c in
    one_list 0 (joined (joined rs ss) ts) (joined rs (joined ss ts)) (joined_apart (joined rs ss) ts 0 ab c) (joined_apart rs (joined ss ts) 0 a bc) (λ n.
    joined_has (joined rs ss) ts 0 n ab c
    ∙ or_grouped (has rs n) (has ss n) (has ts n) (has (joined rs ss) n) (has (joined ss ts) n) (joined_has rs ss 0 n a b) (joined_has ss ts 0 n b c)
    ∙ sym (joined_has rs (joined ss ts) 0 n a bc))

pub joined_comm : (rs ss : List Range) → IsCanonical rs → IsCanonical ss → joined rs ss ≡ joined ss rs
joined_comm rs ss a b = one_list 0 (joined rs ss) (joined ss rs) (joined_apart rs ss 0 a b) (joined_apart ss rs 0 b a) (λ n.
    joined_has rs ss 0 n a b ∙ or_turned (has rs n) (has ss n) ∙ sym (joined_has ss rs 0 n b a))

pub joined_itself : (rs : List Range) → IsCanonical rs → joined rs rs ≡ rs
joined_itself rs a = one_list 0 (joined rs rs) rs (joined_apart rs rs 0 a a) a (λ n. joined_has rs rs 0 n a a ∙ or_once (has rs n))

-- ---- each range of a list is not empty
pub each_range : (low : ℕ) (rs : List Range) (i : ℕ) (d : Range) → AreApart low rs → i < length rs → (slice_index_or rs i d).first ≤ (slice_index_or rs i d).last
each_range low [] i d a less = absurd (omega arith)
each_range low (r ∷ rs) zero d a less = a.1
each_range low (r ∷ rs) (suc i) d a less = each_range (r.last + 2) rs i d a.2 (omega arith)
