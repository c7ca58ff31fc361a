-- Steps that are raised.
use Rattle.std.proofs.Common.{◌≡◌, ℕ, suc, ◌+◌, ◌-◌, zero, ◌≤◌, ◌<◌, true, cond, leb, List, [], ◌∷◌, ◌++◌, length, take, drop, get_or, drop-cons, refl, sym, ◌∙◌, ap, arith, inl, inr}
use Rattle.std.specs.Prelude.{nat_eq, nat_lt, nat_le, map, min, slice_index_or}
use Rattle.std.proofs.lemmas.Bool.{le-leb, lt-leb, lt-ltb, le-ltb, and_right, eqb-true, cases_lt, or_cases}
use Rattle.std.proofs.lemmas.List.{get_or-append_right, take-append-drop, map-append}
use Rattle.std.proofs.lemmas.Grind.{common_steps}
use Rattle.fed_easy.specs.declared.profiles.Step.{Step}
use Rattle.fed_easy.specs.Use.{is_during}
use Rattle.fed_easy.specs.Profile.{IsAfter, is_step, level_at, last_level, raised}
use Rattle.fed_easy.proofs.Levels.{level_far}

pub drop_after : (ss : List Step) (k t : ℕ) → IsAfter t ss → (u : ℕ) × IsAfter u (drop k ss)
drop_after ss zero t after = (t, after)
drop_after [] (suc k) t after = (t, tt)
drop_after (s ∷ ss) (suc k) t after = drop_after ss k s.from after.1

module _ (capacity from until nodes : ℕ) where
  -- a step from `until` on is as it was
  late_same : (s : Step) → until ≤ s.from → raised capacity from until nodes s ≡ s
  late_same s late = rw (and_right (nat_le from s.from) (nat_lt s.from until) (le-ltb s.from until late)) refl

  pub all_late : (t : ℕ) (ss : List Step) → until ≤ suc t → IsAfter t ss → map (raised capacity from until nodes) ss ≡ ss
  all_late t [] late after = refl
  all_late t (s ∷ ss) late after =
      let first = late_same s (omega (arith, after.0)) in
      let rest = all_late s.from ss (omega (arith, after.0)) after.1 in
      cc

  pub place_kept : (xs ys : List Step) (i : ℕ) (d : Step) → i < length xs → ys ≡ map (raised capacity from until nodes) (take i xs) ++ drop i xs
      → get_or ys i d ≡ get_or xs i d
  place_kept xs ys i d lt e =
      let count : length (map (raised capacity from until nodes) (take i xs)) ≡ i = grind (arith, common_steps) in
      let right = get_or-append_right (map (raised capacity from until nodes) (take i xs)) (drop i xs) i i d count (omega arith) in
      let none : i - i ≡ 0 = omega arith in
      ap (λ (zs : List Step). get_or zs i d) e ∙ right ∙ rw (none, drop-cons xs i d lt) refl

  pub rest_late : (xs ys : List Step) (i t : ℕ) (x : Step) → IsAfter t xs → i < length xs → ys ≡ map (raised capacity from until nodes) (take i xs) ++ drop i xs
      → x ≡ slice_index_or ys i x → until ≤ x.from → ys ≡ map (raised capacity from until nodes) xs
  rest_late xs ys i t x after lt e read late =
      let same : x ≡ slice_index_or xs i x = read ∙ place_kept xs ys i x lt e in
      let rest : drop i xs ≡ slice_index_or xs i x ∷ drop (suc i) xs = drop-cons xs i x lt in
      let left = drop_after xs i t after in
      let left_after : IsAfter left.0 (slice_index_or xs i x ∷ drop (suc i) xs) = rw rest at left.1 in
      let here : until ≤ (slice_index_or xs i x).from = rw (← same) late in
      let tail = all_late (slice_index_or xs i x).from (drop (suc i) xs) (omega (arith, here)) left_after.1 in
      let all : map (raised capacity from until nodes) (drop i xs) ≡ drop i xs = rw rest (let first = late_same (slice_index_or xs i x) here in cc) in
      e ∙ ap (λ (zs : List Step). map (raised capacity from until nodes) (take i xs) ++ zs) (sym all) ∙ sym (map-append (raised capacity from until nodes) (take i xs) (drop i xs)) ∙ ap (map (raised capacity from until nodes)) (take-append-drop i xs)

  pub raised_after : (t : ℕ) (ss : List Step) → IsAfter t ss → IsAfter t (map (raised capacity from until nodes) ss)
  raised_after t [] after = tt
  raised_after t (s ∷ ss) after = (after.0, raised_after s.from ss after.1)

-- a step stands after what its list stands after
step_after : (t x : ℕ) (ss : List Step) → IsAfter t ss → is_step x ss ≡ true → t < x
step_after t x [] after e = absurd cc
step_after t x (s ∷ ss) after e =
    elim (or_cases (nat_eq s.from x) (is_step x ss) e) [
      | inl here ↦ let same = eqb-true s.from x here in omega (arith, after.0)
      | inr later ↦ let behind = step_after s.from x ss after.1 later in omega (arith, after.0)
    ]

-- a step that stands behind the first is one of the others
step_behind : (x : ℕ) (s : Step) (ss : List Step) → is_step x (s ∷ ss) ≡ true → s.from < x → is_step x ss ≡ true
step_behind x s ss e lt =
    elim (or_cases (nat_eq s.from x) (is_step x ss) e) [
      | inl here ↦ let same = eqb-true s.from x here in absurd (omega arith)
      | inr later ↦ later
    ]

step_from : (t x : ℕ) (s : Step) (ss : List Step) → IsAfter t (s ∷ ss) → is_step x (s ∷ ss) ≡ true → s.from ≤ x
step_from t x s ss after e =
    elim (or_cases (nat_eq s.from x) (is_step x ss) e) [
      | inl here ↦ let same = eqb-true s.from x here in omega arith
      | inr later ↦ let behind = step_after s.from x ss after.1 later in omega arith
    ]

leb_same : (x t u : ℕ) → t ≤ u → (t < x → u < x) → leb x u ≡ leb x t
leb_same x t u le h = elim (cases_lt t x) [
  | inl lt ↦ let less = h lt in lt-leb x u less ∙ sym (lt-leb x t lt)
  | inr ge ↦ le-leb x u (omega arith) ∙ sym (le-leb x t ge)
]

ltb_same : (x t u : ℕ) → t ≤ u → (t < x → u < x) → nat_lt u x ≡ nat_lt t x
ltb_same x t u le h = elim (cases_lt t x) [
  | inl lt ↦ let less = h lt in lt-ltb u x less ∙ sym (lt-ltb t x lt)
  | inr ge ↦ le-ltb u x (omega arith) ∙ sym (le-ltb t x ge)
]

module _ (capacity from until nodes : ℕ) where
  -- so many nodes, with those added at second u
  abbrev pub lifted : ℕ → ℕ → ℕ
  lifted u level = cond (is_during from until u) (min (level + nodes) (suc capacity)) level

  same_lifted : (t u level : ℕ) → t ≤ u → (t < from → u < from) → (t < until → u < until) → lifted t level ≡ lifted u level
  same_lifted t u level le f g = rw (leb_same from t u le f, ltb_same until t u le g) refl

  pub level_raised : (t level : ℕ) (ss : List Step) → IsAfter t ss → (t < from → is_step from ss ≡ true) → (t < until → is_step until ss ≡ true)
      → (u : ℕ) → t ≤ u → level_at (lifted t level) (map (raised capacity from until nodes) ss) u ≡ lifted u (level_at level ss u)
  level_raised t level [] after f g u le =
      same_lifted t u level le (λ lt. let e = f lt in absurd cc) (λ lt. let e = g lt in absurd cc)
  level_raised t level (s ∷ ss) after f g u le =
      elim (cases_lt u s.from) [
        | inl before ↦ rw (lt-leb s.from u before) (same_lifted t u level le
            (λ lt. let behind = step_from t from s ss after (f lt) in omega arith)
            (λ lt. let behind = step_from t until s ss after (g lt) in omega arith))
        | inr at ↦ rw (le-leb s.from u at) (level_raised s.from s.nodes ss after.1
            (λ lt. step_behind from s ss (f (omega (arith, after.0))) lt)
            (λ lt. step_behind until s ss (g (omega (arith, after.0))) lt) u at)
      ]

  not_during : (u level : ℕ) → until ≤ u → lifted u level ≡ level
  not_during u level late = rw (and_right (nat_le from u) (nat_lt u until) (le-ltb u until late)) refl

  -- behind the last step nothing is in use still
  pub ends_still : (t n m : ℕ) (ss zs : List Step) → ((u : ℕ) → t ≤ u → level_at m zs u ≡ lifted u (level_at n ss u)) → last_level n ss ≡ 0 → last_level m zs ≡ 0
  ends_still t n m ss zs h none =
      let far = level_far n ss in
      let far_new = level_far m zs in
      let u : ℕ = t + (far.0 + (far_new.0 + until)) in
      sym (far_new.1 u (omega arith)) ∙ h u (omega arith) ∙ not_during u (level_at n ss u) (omega arith) ∙ far.1 u (omega arith) ∙ none

-- ---- steps that are split and raised
module _ (capacity from until nodes start n : ℕ) (old mid new : List Step) (m : ℕ) (after : IsAfter start mid)
    (same : (u : ℕ) → level_at n mid u ≡ level_at n old u) (at_from : start < from → is_step from mid ≡ true) (at_until : is_step until mid ≡ true)
    (steps : new ≡ map (raised capacity from until nodes) mid) (first : m ≡ lifted capacity from until nodes start n) where
  pub added_nodes : (u : ℕ) → start ≤ u → level_at m new u ≡ lifted capacity from until nodes u (level_at n old u)
  added_nodes u le = rw (steps, first) (level_raised capacity from until nodes start n mid after at_from (λ lt. at_until) u le ∙ ap (lifted capacity from until nodes u) (same u))

  pub added_after : IsAfter start new
  added_after = rw steps (raised_after capacity from until nodes start mid after)

  pub added_ends : last_level n old ≡ 0 → last_level m new ≡ 0
  added_ends none = ends_still capacity from until nodes start n m old new added_nodes none
