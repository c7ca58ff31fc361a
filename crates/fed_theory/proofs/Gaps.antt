-- The ranges between numbers that pass a test: what they leave out, and how many there are.
use Rattle.std.specs.Prelude.{count_by, cond, not, ◌&&◌, ◌||◌, ◌==◌, nat_le}
use Rattle.std.specs.List.{range_with_len, list_any}
use Rattle.std.proofs.Common.{◌≡◌, ◌⊎◌, ℕ, zero, suc, ◌+◌, ◌-◌, ◌≤◌, ◌<◌, List, [], ◌∷◌, length, Bool, true, false, refl, sym, ap, subst, ◌∙◌, inl, inr, arith}
use Rattle.std.proofs.lemmas.Bool.{cases_Bool, cases_eq, cases_lt, cond-true, cond-false, ne_eqb, or_parts, both_ways, and_parts, and_from, or_cases, or_right, leb-true, le-leb, not-true, eqb-true, eq-eqb}
use Rattle.std.proofs.Math.Bool.{and-false}
use Rattle.fed_lattice.specs.Sets.{Has}
use Rattle.fed_lattice.specs.SetLaws.{any_from, found}
use Rattle.fed_model.specs.Retired.{is_within}
use Rattle.fed_theory.proofs.OriginCounts.{first_counted, fewer, one_more, longer, bit_more}

-- ---- where one number passes that does no more
one_less : (q p : ℕ → Bool) (c : ℕ) (n a : ℕ) → a ≤ c → c < a + n → p c ≡ true → q c ≡ false → ((k : ℕ) → q k ≡ true → p k ≡ true) → count_by q (range_with_len a n) + 1 ≤ count_by p (range_with_len a n)
one_less q p c zero a low high there out more = absurd (omega arith)
one_less q p c (suc n) a low high there out more = elim (cases_eq a c) [
  | inl e ↦ (
      let rest : count_by q (range_with_len (a + 1) n) ≤ count_by p (range_with_len (a + 1) n) = fewer q p n (a + 1) (λ k h t. more k t) in
      let on : ◌≡◌ {A = ℕ} (cond (p a) 1 0) 1 = ap (λ b. cond {A = ℕ} b 1 0) (ap p e ∙ there) in
      let off : ◌≡◌ {A = ℕ} (cond (q a) 1 0) 0 = ap (λ b. cond {A = ℕ} b 1 0) (ap q e ∙ out) in
      omega (arith, first_counted q a n, first_counted p a n))
  | inr apart ↦ (
      let rest : count_by q (range_with_len (a + 1) n) + 1 ≤ count_by p (range_with_len (a + 1) n) = one_less q p c n (a + 1) (omega arith) (omega arith) there out more in
      let head : cond (q a) 1 0 ≤ cond (p a) 1 0 = bit_more (q a) (p a) (more a) in
      omega (arith, first_counted q a n, first_counted p a n))
]

-- ---- sets of numbers, and where their ranges start
abbrev pub start_in : (ℕ → Bool) → ℕ → Bool
start_in s k = not (s k) && s (suc k)

abbrev pub with_range : (ℕ → Bool) → ℕ × ℕ → ℕ → Bool
with_range s r k = s k || is_within r.0 r.1 k

pub in_range : (r : ℕ × ℕ) (k : ℕ) → r.0 ≤ k → k ≤ r.1 → is_within r.0 r.1 k ≡ true
in_range r k low high = and_from (nat_le r.0 k) (nat_le k r.1) (le-leb r.0 k low) (le-leb k r.1 high)

pub range_ends : (r : ℕ × ℕ) (k : ℕ) → is_within r.0 r.1 k ≡ true → (r.0 ≤ k) × (k ≤ r.1)
range_ends r k e = let p = and_parts (nat_le r.0 k) (nat_le k r.1) e in (leb-true r.0 k p.0, leb-true k r.1 p.1)

-- below a number of the set some range starts
start_below : (s : ℕ → Bool) (a d : ℕ) → s a ≡ false → s (a + d) ≡ true → (c : ℕ) × (a ≤ c) × (c < a + d) × (start_in s c ≡ true)
start_below s a zero out there = absurd (let same : a + 0 ≡ a = omega arith in both_ways (s a) out (ap s (sym same) ∙ there))
start_below s a (suc d) out there = elim (cases_Bool (s (a + d))) [
  | inl below ↦ (let f = start_below s a d out below in let low = f.1 in let high = f.2 in (f.0, omega arith, omega arith, f.3))
  | inr top ↦ (
      let next : suc (a + d) ≡ a + suc d = omega arith in
      let on : s (suc (a + d)) ≡ true = ap s next ∙ there in
      (a + d, omega arith, omega arith, and_from (not (s (a + d))) (s (suc (a + d))) (ap not top) on))
]

-- where one number passes that didn't, and another no more
moved : (p q : ℕ → Bool) (a c n : ℕ) → c < n → p c ≡ true → q c ≡ false → ((k : ℕ) → q k ≡ true → (p k ≡ true) ⊎ (k ≡ a)) → count_by q (range_with_len 0 n) ≤ count_by p (range_with_len 0 n)
moved p q a c n small there out old =
    let rest : ℕ → Bool = λ k. p k && not (k == c) in
    let none : rest c ≡ false = ap (λ b. p c && not b) (eq-eqb c c refl) ∙ and-false (p c) in
    let fewer_then : count_by rest (range_with_len 0 n) + 1 ≤ count_by p (range_with_len 0 n) =
    one_less rest p c n 0 (omega arith) (omega arith) there none (λ k t. (and_parts (p k) (not (k == c)) t).0) in
    let more : count_by q (range_with_len 0 n) ≤ count_by rest (range_with_len 0 n) + 1 = one_more q rest a n 0 (λ k t. elim (old k t) [
      | inr e ↦ inr e
      | inl e ↦ elim (cases_eq k c) [
        | inl place ↦ absurd (both_ways (q c) out (subst (λ (j : ℕ). q j ≡ true) place t))
        | inr apart ↦ inl (and_from (p k) (not (k == c)) e (ap not (ne_eqb k c apart)))
      ]
    ]) in
    omega arith

-- what starts with a range more
starts_with : (s : ℕ → Bool) (a b k : ℕ) → start_in (with_range s (suc a, b)) k ≡ true → (start_in s k ≡ true) ⊎ (k ≡ a)
starts_with s a b k t =
    let parts = and_parts (not (with_range s (suc a, b) k)) (with_range s (suc a, b) (suc k)) t in
    let out = or_parts (s k) (is_within (suc a) b k) (not-true _ parts.0) in
    elim (or_cases (s (suc k)) (is_within (suc a) b (suc k)) parts.1) [
      | inl e ↦ inl (and_from (not (s k)) (s (suc k)) (ap not out.0) e)
      | inr e ↦ (
          let ends = range_ends (suc a, b) (suc k) e in
          let low = ends.0 in let high = ends.1 in
          elim (cases_eq k a) [
            | inl same ↦ inr same
            | inr apart ↦ absurd (both_ways (is_within (suc a) b k) out.1 (in_range (suc a, b) k (omega arith) (omega arith)))
          ])
    ]

-- a range that has a number of the set, and before which none is, makes no start more
pub starts_kept : (s : ℕ → Bool) (a b x n : ℕ) → s a ≡ false → a < x → x ≤ b → s x ≡ true → x ≤ n → count_by (start_in (with_range s (suc a, b))) (range_with_len 0 n) ≤ count_by (start_in s) (range_with_len 0 n)
starts_kept s a b x n out low high there most =
    let same : a + (x - a) ≡ x = omega arith in
    let f = start_below s a (x - a) out (ap s same ∙ there) in
    let f_low = f.1 in let f_high = f.2 in
    elim (cases_eq f.0 a) [
      | inl first ↦ fewer (start_in (with_range s (suc a, b))) (start_in s) n 0 (λ k h t. elim (starts_with s a b k t) [
        | inl e ↦ e
        | inr e ↦ subst (λ (j : ℕ). start_in s j ≡ true) (first ∙ sym e) f.3
      ])
      | inr other ↦ (
          let inside : with_range s (suc a, b) f.0 ≡ true = or_right (s f.0) (is_within (suc a) b f.0) (in_range (suc a, b) f.0 (omega arith) (omega arith)) in
          let off : start_in (with_range s (suc a, b)) f.0 ≡ false = ap (λ c. not c && with_range s (suc a, b) (suc f.0)) inside in
          moved (start_in s) (start_in (with_range s (suc a, b))) a f.0 n (omega arith) f.3 off (starts_with s a b))
    ]

-- ---- the gaps of a test u below a bound
module _ (u : ℕ → Bool) where
  -- a range of numbers that don't pass, behind 0 or a number that does
  pub record IsGap (m : ℕ) (r : ℕ × ℕ) : Type 0 where
    pub low : 1 ≤ r.0
    pub some : r.0 ≤ r.1
    pub high : r.1 ≤ m
    pub free : (k : ℕ) → r.0 ≤ k → k ≤ r.1 → u k ≡ false
    pub behind : (k : ℕ) → suc k ≡ r.0 → (k ≡ 0) ⊎ (u k ≡ true)

  -- the last number up to which none passes
  end_of : ℕ → ℕ → ℕ
  end_of zero a = a
  end_of (suc f) a = cond (u (suc a)) a (end_of f (suc a))

  record IsEnd (f a b : ℕ) : Type 0 where
    low : a ≤ b
    high : b ≤ a + f
    free : (k : ℕ) → a ≤ k → k ≤ b → u k ≡ false
    far : (k : ℕ) → a ≤ k → k ≤ a + f → ((j : ℕ) → a ≤ j → j ≤ k → u j ≡ false) → k ≤ b

  ended : (f a : ℕ) → u a ≡ false → IsEnd f a (end_of f a)
  unfolding end_of
  ended zero a e = record {
    low = omega arith;
    high = omega arith;
    free = λ k low high. let same : k ≡ a = omega arith in ap u same ∙ e;
    far = λ k low high all. omega arith;
  }
  ended (suc f) a e = elim (cases_Bool (u (suc a))) [
    | inl stop ↦ subst (IsEnd (suc f) a) (sym (cond-true (u (suc a)) a (end_of f (suc a)) stop)) (record {
      low = omega arith;
      high = omega arith;
      free = λ k low high. let same : k ≡ a = omega arith in ap u same ∙ e;
      far = λ k low high all. elim (cases_lt a k) [
        | inr le ↦ le
        | inl past ↦ absurd (both_ways (u (suc a)) (all (suc a) (omega arith) (omega arith)) stop)
      ];
    })
    | inr go ↦ (
        let rest = ended f (suc a) go in
        let rest_low = rest.low in let rest_high = rest.high in
        subst (IsEnd (suc f) a) (sym (cond-false (u (suc a)) a (end_of f (suc a)) go)) (record {
          low = omega arith;
          high = omega arith;
          free = λ k low high. elim (cases_eq k a) [ inl same ↦ ap u same ∙ e | inr apart ↦ rest.free k (omega arith) high ];
          far = λ k low high all. elim (cases_eq k a) [
            | inl same ↦ omega arith
            | inr apart ↦ rest.far k (omega arith) (omega arith) (λ j from to. all j (omega arith) to)
          ];
        }))
  ]

  -- whether a gap begins behind the number
  begins : ℕ → Bool
  begins k = not (u (suc k)) && ((k == 0) || u k)

  gap : ℕ → ℕ → ℕ × ℕ
  gap m k = (suc k, end_of (m - suc k) (suc k))

  is_gap : (m k : ℕ) → k < m → begins k ≡ true → IsGap m (gap m k)
  unfolding begins gap
  is_gap m k small b =
      let parts = and_parts (not (u (suc k))) ((k == 0) || u k) b in
      let e = ended (m - suc k) (suc k) (not-true _ parts.0) in
      let e_low = e.low in let e_high = e.high in
      record {
        low = omega arith;
        some = omega arith;
        high = omega arith;
        free = e.free;
        behind = λ j is. let same : j ≡ k = omega arith in elim (or_cases (k == 0) (u k) parts.1) [
          | inl z ↦ inl (same ∙ eqb-true k 0 z)
          | inr t ↦ inr (ap u same ∙ t)
        ];
      }

  gaps_from : ℕ → ℕ → ℕ → List (ℕ × ℕ)
  gaps_from m k zero = []
  gaps_from m k (suc n) = cond (begins k) (gap m k ∷ gaps_from m (k + 1) n) (gaps_from m (k + 1) n)

  each_from : (m k n : ℕ) → k + n ≤ m → (r : ℕ × ℕ) → Has (gaps_from m k n) r → IsGap m r
  unfolding gaps_from
  each_from m k zero most r h = absurd h
  each_from m k (suc n) most r h = elim (cases_Bool (begins k)) [
    | inr none ↦ each_from m (k + 1) n (omega arith) r (subst (λ l. Has l r) (cond-false (begins k) (gap m k ∷ gaps_from m (k + 1) n) (gaps_from m (k + 1) n) none) h)
    | inl b ↦ elim (subst (λ l. Has l r) (cond-true (begins k) (gap m k ∷ gaps_from m (k + 1) n) (gaps_from m (k + 1) n) b) h) [
      | inl e ↦ subst (IsGap m) e (is_gap m k (omega arith) b)
      | inr rest ↦ each_from m (k + 1) n (omega arith) r rest
    ]
  ]

  there_from : (m k n j : ℕ) → k ≤ j → j < k + n → begins j ≡ true → Has (gaps_from m k n) (gap m j)
  unfolding gaps_from
  there_from m k zero j low high b = absurd (omega arith)
  there_from m k (suc n) j low high b = elim (cases_eq k j) [
    | inl same ↦ subst (λ l. Has l (gap m j)) (sym (cond-true (begins k) (gap m k ∷ gaps_from m (k + 1) n) (gaps_from m (k + 1) n) (ap begins same ∙ b))) (inl (ap (gap m) same))
    | inr apart ↦ (
        let rest : Has (gaps_from m (k + 1) n) (gap m j) = there_from m (k + 1) n j (omega arith) (omega arith) b in
        elim (cases_Bool (begins k)) [
          | inl c ↦ subst (λ l. Has l (gap m j)) (sym (cond-true (begins k) (gap m k ∷ gaps_from m (k + 1) n) (gaps_from m (k + 1) n) c)) (inr rest)
          | inr c ↦ subst (λ l. Has l (gap m j)) (sym (cond-false (begins k) (gap m k ∷ gaps_from m (k + 1) n) (gaps_from m (k + 1) n) c)) rest
        ])
  ]

  length_from : (m k n : ℕ) → length (gaps_from m k n) ≤ count_by begins (range_with_len k n)
  unfolding gaps_from
  length_from m k zero = omega arith
  length_from m k (suc n) =
      let rest : length (gaps_from m (k + 1) n) ≤ count_by begins (range_with_len (k + 1) n) = length_from m (k + 1) n in
      elim (cases_Bool (begins k)) [
        | inl b ↦ (
            let bit : ◌≡◌ {A = ℕ} (cond (begins k) 1 0) 1 = ap (λ c. cond {A = ℕ} c 1 0) b in
            let l : length (gaps_from m k (suc n)) ≡ suc (length (gaps_from m (k + 1) n)) = ap length (cond-true (begins k) (gap m k ∷ gaps_from m (k + 1) n) (gaps_from m (k + 1) n) b) in
            omega (arith, first_counted begins k n))
        | inr b ↦ (
            let bit : ◌≡◌ {A = ℕ} (cond (begins k) 1 0) 0 = ap (λ c. cond {A = ℕ} c 1 0) b in
            let l : length (gaps_from m k (suc n)) ≡ length (gaps_from m (k + 1) n) = ap length (cond-false (begins k) (gap m k ∷ gaps_from m (k + 1) n) (gaps_from m (k + 1) n) b) in
            omega (arith, first_counted begins k n))
      ]

  -- ---- all gaps up to a bound
  pub gaps : ℕ → List (ℕ × ℕ)
  gaps m = gaps_from m 0 m

  pub each_gap : (m : ℕ) (r : ℕ × ℕ) → Has (gaps m) r → IsGap m r
  unfolding gaps
  each_gap m r h = each_from m 0 m (omega arith) r h

  pub few_gaps : (m n : ℕ) → m ≤ n → length (gaps m) ≤ count_by u (range_with_len 0 n) + 1
  unfolding gaps begins
  few_gaps m n le =
      let a = length_from m 0 m in
      let b = one_more begins u 0 m 0 (λ k t. elim (or_cases (k == 0) (u k) (and_parts (not (u (suc k))) ((k == 0) || u k) t).1) [
        | inl z ↦ inr (eqb-true k 0 z)
        | inr y ↦ inl y
      ]) in
      let c = longer u m n 0 le in
      omega arith

  -- where none passes between, a number is in the gap
  reaches : (m a k : ℕ) → a < k → k ≤ m → ((j : ℕ) → a < j → j ≤ k → u j ≡ false) → begins a ≡ true → (r : ℕ × ℕ) × Has (gaps m) r × (is_within r.0 r.1 k ≡ true)
  unfolding gaps gap
  reaches m a k low high all b =
      let e = ended (m - suc a) (suc a) (all (suc a) (omega arith) (omega arith)) in
      let far = e.far k (omega arith) (omega arith) (λ j from to. all j (omega arith) to) in
      (gap m a, there_from m 0 m a (omega arith) (omega arith) b, in_range (gap m a) k (omega arith) far)

  from_below : (m k d : ℕ) → d < k → k ≤ m → ((j : ℕ) → d < j → j ≤ k → u j ≡ false) → (r : ℕ × ℕ) × Has (gaps m) r × (is_within r.0 r.1 k ≡ true)
  unfolding begins
  from_below m k zero low high all = reaches m 0 k low high all (and_from (not (u 1)) _ (ap not (all 1 (omega arith) (omega arith))) refl)
  from_below m k (suc d) low high all = elim (cases_Bool (u (suc d))) [
    | inl t ↦ reaches m (suc d) k low high all (and_from (not (u (suc (suc d)))) _ (ap not (all (suc (suc d)) (omega arith) (omega arith))) (or_right (suc d == 0) (u (suc d)) t))
    | inr f ↦ from_below m k d (omega arith) high (λ j from to. elim (cases_eq j (suc d)) [ inl same ↦ ap u same ∙ f | inr apart ↦ all j (omega arith) to ])
  ]

  pub covered : (m k : ℕ) → 1 ≤ k → k ≤ m → u k ≡ false → (r : ℕ × ℕ) × Has (gaps m) r × (is_within r.0 r.1 k ≡ true)
  covered m k low high e = from_below m k (k - 1) (omega arith) high (λ j from to. let same : j ≡ k = omega arith in ap u same ∙ e)

-- ---- ranges of a list
abbrev pub in_some : List (ℕ × ℕ) → ℕ → Bool
in_some ranges k = list_any (λ r. is_within r.0 r.1 k) ranges

pub in_some_by : (ranges : List (ℕ × ℕ)) (r : ℕ × ℕ) (k : ℕ) → Has ranges r → is_within r.0 r.1 k ≡ true → in_some ranges k ≡ true
in_some_by ranges r k h e = any_from (λ r. is_within r.0 r.1 k) ranges r h e

pub in_some_found : (ranges : List (ℕ × ℕ)) (k : ℕ) → in_some ranges k ≡ true → (r : ℕ × ℕ) × Has ranges r × (is_within r.0 r.1 k ≡ true)
in_some_found ranges k e = found (λ r. is_within r.0 r.1 k) ranges e

-- the ranges of a set that is made of gaps alone start behind 0 or behind what passes
pub few_starts : (u s : ℕ → Bool) (m n : ℕ) → ((k : ℕ) → s (suc k) ≡ true → s k ≡ false → (k ≡ 0) ⊎ (u k ≡ true)) → count_by (start_in s) (range_with_len 0 n) ≤ count_by u (range_with_len 0 n) + 1
few_starts u s m n behind = one_more (start_in s) u 0 n 0 (λ k t.
    let p = and_parts (not (s k)) (s (suc k)) t in
    elim (behind k p.1 (not-true _ p.0)) [ inl z ↦ inr z | inr y ↦ inl y ])
