-- How many jobs and reservations have an identifier that one site gave, as sets grow.
use Rattle.std.specs.Prelude.{count_by, cond, is_some, not, nat_le, ◌&&◌, ◌||◌}
use Rattle.std.specs.List.{range_with_len}
use Rattle.std.specs.Cmp.{both_ways as both_truths}
use Rattle.std.proofs.Common.{◌≡◌, ◌⊎◌, ℕ, zero, suc, ◌+◌, ◌≤◌, ◌<◌, [], ◌∷◌, ◌++◌, Bool, true, false, refl, sym, ap, subst, ◌∙◌, inl, inr, arith}
use Rattle.std.proofs.lemmas.Bool.{cases_Bool, cases_eq, both_ways, and_parts, or_cases, leb-true, eq-eqb}
use Rattle.std.proofs.lemmas.List.Sums.{sum_by-cons}
use Rattle.fed_stamp.specs.Stamp.{StampValue}
use Rattle.fed_stamp.specs.Version.{counter_of}
use Rattle.fed_lattice.specs.Sets.{Has, Includes}
use Rattle.fed_lattice.specs.SetLaws.{Has-left, Has-push}
use Rattle.fed_lattice.specs.History.{History}
use Rattle.fed_lattice.specs.VersionOf.{version_of, HasSites}
use Rattle.fed_lattice.proofs.VersionOfLaws.{version_of-Has}
use Rattle.fed_model.specs.Body.{Body, Body.Submit, Body.Reserve, Body.Retire}
use Rattle.fed_model.specs.Letter.{is_submitted}
use Rattle.fed_model.specs.View.{view, HasSubmit, HasReserve}
use Rattle.fed_model.specs.Lawful.{IsLawful}
use Rattle.fed_theory.proofs.SubmitLaws.{submit_of, submitted_by, unretired, reserve_of, made_from, standing_whole}
use Rattle.fed_theory.proofs.RetiredLaws.{retired_pushed, retired_more, retired_by, retiring, retirement}
use Rattle.fed_model.specs.Retired.{is_within, retires, is_retired, following, starts}
use Rattle.fed_model.specs.Origin.{jobs_of, ranges_of, ranges_with, reservations_of}

-- ---- bits
or_none : (a b : Bool) → b ≡ false → (a || b) ≡ a
or_none a b e = grind (arith, e)

-- ---- counts over ranges
pub bit_more : (b c : Bool) → (b ≡ true → c ≡ true) → cond b 1 0 ≤ cond c 1 0
bit_more true c h = rw (h refl) (omega arith)
bit_more false c h = omega arith

pub bit_most : (b : Bool) → cond b 1 0 ≤ 1
bit_most true = omega arith
bit_most false = omega arith

pub first_counted : (p : ℕ → Bool) (a n : ℕ) → count_by p (range_with_len a (suc n)) ≡ cond (p a) 1 0 + count_by p (range_with_len (a + 1) n)
first_counted p a n = sum_by-cons (λ x. cond (p x) 1 0) a (range_with_len (a + 1) n)

pub fewer : (q p : ℕ → Bool) (n a : ℕ) → ((k : ℕ) → a ≤ k → q k ≡ true → p k ≡ true) → count_by q (range_with_len a n) ≤ count_by p (range_with_len a n)
fewer q p zero a more = omega arith
fewer q p (suc n) a more =
    let rest : count_by q (range_with_len (a + 1) n) ≤ count_by p (range_with_len (a + 1) n) = fewer q p n (a + 1) (λ k h. more k (omega arith)) in
    let head = bit_more (q a) (p a) (more a (omega arith)) in omega (arith, first_counted q a n, first_counted p a n)

-- where all that pass are among the first n
pub shorter : (p : ℕ → Bool) (m n a : ℕ) → ((k : ℕ) → a + n ≤ k → p k ≡ false) → count_by p (range_with_len a m) ≤ count_by p (range_with_len a n)
shorter p zero n a none = omega arith
shorter p (suc m) zero a none =
    let rest : count_by p (range_with_len (a + 1) m) ≤ 0 = shorter p m zero (a + 1) (λ k h. none k (omega arith)) in
    let off : p a ≡ false = none a (omega arith) in let head : ◌≡◌ {A = ℕ} (cond (p a) 1 0) 0 = ap (λ b. cond {A = ℕ} b 1 0) off in omega (arith, first_counted p a m)
shorter p (suc m) (suc n) a none =
    let rest : count_by p (range_with_len (a + 1) m) ≤ count_by p (range_with_len (a + 1) n) = shorter p m n (a + 1) (λ k h. none k (omega arith)) in omega (arith, first_counted p a m, first_counted p a n)

-- more numbers are counted
pub longer : (p : ℕ → Bool) (m n a : ℕ) → m ≤ n → count_by p (range_with_len a m) ≤ count_by p (range_with_len a n)
longer p zero n a le = omega arith
longer p (suc m) zero a le = absurd (omega arith)
longer p (suc m) (suc n) a le =
    let rest : count_by p (range_with_len (a + 1) m) ≤ count_by p (range_with_len (a + 1) n) = longer p m n (a + 1) (omega arith) in omega (arith, first_counted p a m, first_counted p a n)

-- where one number passes that didn't
pub one_more : (q p : ℕ → Bool) (c n a : ℕ) → ((k : ℕ) → q k ≡ true → (p k ≡ true) ⊎ (k ≡ c)) → count_by q (range_with_len a n) ≤ count_by p (range_with_len a n) + 1
one_more q p c zero a more = omega arith
one_more q p c (suc n) a more = elim (cases_eq a c) [
  | inl e ↦ (
      let rest : count_by q (range_with_len (a + 1) n) ≤ count_by p (range_with_len (a + 1) n) = fewer q p n (a + 1) (λ k h t. elim (more k t) [ inl y ↦ y | inr s ↦ absurd (omega arith) ]) in
      let head = bit_most (q a) in omega (arith, first_counted q a n, first_counted p a n))
  | inr apart ↦ (
      let rest : count_by q (range_with_len (a + 1) n) ≤ count_by p (range_with_len (a + 1) n) + 1 = one_more q p c n (a + 1) more in
      let head = bit_more (q a) (p a) (λ t. elim (more a t) [ inl y ↦ y | inr s ↦ absurd (apart s) ]) in omega (arith, first_counted q a n, first_counted p a n))
]

-- ---- identifiers that a set makes
-- sets of which no operation retires what was made after it
pub record IsCountable (ops : History Body) : Type 0 where
  pub sites : HasSites ops
  pub before : (t : StampValue) (first last : ℕ) → Has ops (t, Retire first last) → last < t.counter

pub lawful_countable : (ops : History Body) → IsLawful ops → IsCountable ops
lawful_countable ops l = record { sites = l.sites; before = λ t first last h. (l.grounded (t, Retire first last) h).2 }

pub fewer_countable : (ops more : History Body) → IsCountable more → Includes more ops → IsCountable ops
fewer_countable ops more l includes = record { sites = λ e h. l.sites e (includes e h); before = λ t first last h. l.before t first last (includes _ h) }

abbrev pub identifier : ℕ → ℕ → StampValue
identifier site counter = record { counter = counter; site = site }

module _ (made : History Body → StampValue → Bool)
    (beyond : (ops : History Body) → IsCountable ops → (site k : ℕ) → suc (counter_of (version_of ops) site) ≤ k → made ops (identifier site k) ≡ false) where
  abbrev count : History Body → ℕ → ℕ
  count ops site = count_by (λ counter. made ops (identifier site counter)) (range_with_len 0 (suc (counter_of (version_of ops) site)))

  pub count_fewer : (ops more : History Body) → IsCountable more → (site : ℕ) → ((k : ℕ) → made ops (identifier site k) ≡ true → made more (identifier site k) ≡ true) → count ops site ≤ count more site
  count_fewer ops more m site has =
      let a : count ops site ≤ count_by (λ counter. made more (identifier site counter)) (range_with_len 0 (suc (counter_of (version_of ops) site))) =
      fewer (λ counter. made ops (identifier site counter)) (λ counter. made more (identifier site counter)) (suc (counter_of (version_of ops) site)) 0 (λ k h t. has k t) in
      let b = shorter (λ counter. made more (identifier site counter)) (suc (counter_of (version_of ops) site)) (suc (counter_of (version_of more) site)) 0 (λ k far. beyond more m site k (omega arith)) in
      omega arith

  pub count_one_more : (ops more : History Body) → IsCountable ops → (site c : ℕ) → ((k : ℕ) → made more (identifier site k) ≡ true → (made ops (identifier site k) ≡ true) ⊎ (k ≡ c)) → count more site ≤ count ops site + 1
  count_one_more ops more l site c has =
      let n : ℕ = suc (counter_of (version_of more) site) in
      let a : count more site ≤ count_by (λ counter. made ops (identifier site counter)) (range_with_len 0 n) + 1 =
      one_more (λ counter. made more (identifier site counter)) (λ counter. made ops (identifier site counter)) c n 0 has in
      let b = shorter (λ counter. made ops (identifier site counter)) n (suc (counter_of (version_of ops) site)) 0 (λ k far. beyond ops l site k (omega arith)) in
      omega arith

-- a stamp that an operation has is not above the version
reached : (ops : History Body) → IsCountable ops → (site k : ℕ) (body : Body) → Has ops (identifier site k, body) → k ≤ counter_of (version_of ops) site
reached ops l site k body h = version_of-Has ops (identifier site k, body) h (l.sites (identifier site k, body) h)

-- ---- jobs
abbrev pub MakesJob : Body → Type 0
MakesJob (Submit owner values held) = Unit {0}
MakesJob _ = ⊥

abbrev is_job : History Body → StampValue → Bool
is_job ops id = is_submitted ((view ops).job id)

jobs_beyond : (ops : History Body) → IsCountable ops → (site k : ℕ) → suc (counter_of (version_of ops) site) ≤ k → is_job ops (identifier site k) ≡ false
jobs_beyond ops l site k far = elim (cases_Bool (is_job ops (identifier site k))) [
  | inl t ↦ (
      let s = submit_of ops (identifier site k) t in
      let le = reached ops l site k (Submit s.0 s.1 s.2) s.3 in absurd (omega arith))
  | inr t ↦ t
]

-- a job of the larger set that was submitted in the smaller
job_back : (ops more : History Body) → Includes more ops → (id : StampValue) → is_job more id ≡ true → HasSubmit ops id → is_job ops id ≡ true
job_back ops more includes id t s = submitted_by ops id s (elim (cases_Bool (is_retired ops id)) [
  | inl r ↦ absurd (both_ways _ (unretired more id t) (retired_more ops more id includes r))
  | inr r ↦ r
])

submit_pushed : (ops : History Body) (new : StampValue × Body) (id : StampValue) → HasSubmit (ops ++ new ∷ []) id → HasSubmit ops id ⊎ ((new.0 ≡ id) × MakesJob new.1)
submit_pushed ops new id s = elim (Has-push ops new (id, Submit s.0 s.1 s.2) s.3) [
  | inl h ↦ inl (s.0, s.1, s.2, h)
  | inr e ↦ inr (ap (λ (x : StampValue × Body). x.0) e, subst MakesJob (ap (λ (x : StampValue × Body). x.1) (sym e)) tt)
]

pub jobs_one_more : (ops : History Body) (new : StampValue × Body) → IsLawful ops → (site : ℕ) → jobs_of (view (ops ++ new ∷ [])) site ≤ jobs_of (view ops) site + 1
jobs_one_more ops new l site = count_one_more is_job jobs_beyond ops (ops ++ new ∷ []) (lawful_countable ops l) site new.0.counter (λ k t.
    elim (submit_pushed ops new (identifier site k) (submit_of (ops ++ new ∷ []) (identifier site k) t)) [
      | inl s ↦ inl (job_back ops (ops ++ new ∷ []) (Has-left ops (new ∷ [])) (identifier site k) t s)
      | inr e ↦ inr (ap (λ (x : StampValue). x.counter) (sym e.0))
    ])

pub jobs_kept : (ops : History Body) (new : StampValue × Body) → IsLawful ops → (MakesJob new.1 → ⊥) → (site : ℕ) → jobs_of (view (ops ++ new ∷ [])) site ≤ jobs_of (view ops) site
jobs_kept ops new l other site = count_fewer is_job jobs_beyond (ops ++ new ∷ []) ops (lawful_countable ops l) site (λ k t.
    elim (submit_pushed ops new (identifier site k) (submit_of (ops ++ new ∷ []) (identifier site k) t)) [
      | inl s ↦ job_back ops (ops ++ new ∷ []) (Has-left ops (new ∷ [])) (identifier site k) t s
      | inr e ↦ absurd (other e.1)
    ])

-- ---- ranges of retired identifiers
abbrev is_start : History Body → StampValue → Bool
is_start ops id = starts (is_retired ops) id

pub retired_reached : (ops : History Body) → IsCountable ops → (id : StampValue) → is_retired ops id ≡ true → id.counter < counter_of (version_of ops) id.site
retired_reached ops l id t =
    let f = retiring ops id t in
    let r = retirement f.0 id f.2 in
    let h : Has ops (f.0.0, Retire r.first r.last) = subst (Has ops) r.is f.1 in
    let below = l.before f.0.0 r.first r.last h in
    let high = r.high in
    let le : f.0.0.counter ≤ counter_of (version_of ops) f.0.0.site = version_of-Has ops f.0 f.1 (l.sites f.0 f.1) in
    let at : f.0.0.counter ≤ counter_of (version_of ops) id.site = subst (λ n. f.0.0.counter ≤ counter_of (version_of ops) n) r.site le in omega arith

pub ranges_beyond : (ops : History Body) → IsCountable ops → (site k : ℕ) → suc (counter_of (version_of ops) site) ≤ k → is_start ops (identifier site k) ≡ false
ranges_beyond ops l site k far = elim (cases_Bool (is_start ops (identifier site k))) [
  | inl t ↦ (let below = retired_reached ops l (following (identifier site k)) (and_parts (not (is_retired ops (identifier site k))) _ t).1 in absurd (omega arith))
  | inr t ↦ t
]

-- ---- sets that have the same operations of a site
pub record HasSameOwn (ops more : History Body) (site : ℕ) : Type 0 where
  pub there : (e : StampValue × Body) → Has ops e → e.0.site ≡ site → Has more e
  pub back : (e : StampValue × Body) → Has more e → e.0.site ≡ site → Has ops e

module _ (ops more : History Body) (site : ℕ) (same : HasSameOwn ops more site) where
  own_retired : (id : StampValue) → id.site ≡ site → is_retired ops id ≡ is_retired more id
  own_retired id at = both_truths (is_retired ops id) (is_retired more id)
      (λ t. let f = retiring ops id t in retired_by more id f.0 (same.there f.0 f.1 ((retirement f.0 id f.2).site ∙ at)) f.2)
      (λ t. let f = retiring more id t in retired_by ops id f.0 (same.back f.0 f.1 ((retirement f.0 id f.2).site ∙ at)) f.2)

  pub own_jobs : IsCountable more → jobs_of (view ops) site ≤ jobs_of (view more) site
  own_jobs m = count_fewer is_job jobs_beyond ops more m site (λ k t.
      let s = submit_of ops (identifier site k) t in
      submitted_by more (identifier site k) (s.0, s.1, s.2, same.there _ s.3 refl) (sym (own_retired (identifier site k) refl) ∙ unretired ops (identifier site k) t))

  pub own_ranges : IsCountable more → ranges_of (view ops) site ≤ ranges_of (view more) site
  own_ranges m = count_fewer is_start ranges_beyond ops more m site (λ k t.
      subst (λ b. b ≡ true) (λ i. not (own_retired (identifier site k) refl i) && own_retired (following (identifier site k)) refl i) t)

-- ---- one operation more
-- no Retire retires nothing more
pub ranges_kept : (ops : History Body) (new : StampValue × Body) → IsLawful ops → ((job : StampValue) → retires job new ≡ false) → (site : ℕ) → ranges_of (view (ops ++ new ∷ [])) site ≤ ranges_of (view ops) site
ranges_kept ops new l none site =
    let same : (id : StampValue) → is_retired (ops ++ new ∷ []) id ≡ is_retired ops id = λ id. retired_pushed ops new id ∙ or_none (is_retired ops id) (retires id new) (none id) in
    count_fewer is_start ranges_beyond (ops ++ new ∷ []) ops (lawful_countable ops l) site (λ k t.
    subst (λ b. b ≡ true) (λ i. not (same (identifier site k) i) && same (following (identifier site k)) i) t)

module _ (ops : History Body) (l : IsLawful ops) (t : StampValue) (first last : ℕ) (far : last ≤ counter_of (version_of ops) t.site) where
  with_range : StampValue → Bool
  with_range id = is_retired ops id || is_within first last id.counter

  more_retired : (id : StampValue) → id.site ≡ t.site → is_retired (ops ++ (t, Retire first last) ∷ []) id ≡ with_range id
  unfolding with_range
  more_retired id at =
      retired_pushed ops (t, Retire first last) id
      ∙ ap (λ b. is_retired ops id || (b && is_within first last id.counter)) (eq-eqb t.site id.site (sym at))

  pub ranges_added : ranges_of (view (ops ++ (t, Retire first last) ∷ [])) t.site ≤ ranges_with (view ops) t.site first last
  unfolding with_range
  ranges_added =
      let site : ℕ = t.site in
      let p : ℕ → Bool = λ k. starts (λ id. is_retired ops id || is_within first last id.counter) (identifier site k) in
      let n : ℕ = suc (counter_of (version_of (ops ++ (t, Retire first last) ∷ [])) site) in
      let a = fewer (λ k. is_start (ops ++ (t, Retire first last) ∷ []) (identifier site k)) p n 0 (λ k h e.
      subst (λ b. b ≡ true) (λ i. not (more_retired (identifier site k) refl i) && more_retired (following (identifier site k)) refl i) e) in
      let b = shorter p n (suc (counter_of (version_of ops) site)) 0 (λ k h. none k (omega arith)) in
      omega arith
    where
      none : (k : ℕ) → suc (counter_of (version_of ops) t.site) ≤ k → starts (λ id. is_retired ops id || is_within first last id.counter) (identifier t.site k) ≡ false
      none k h = elim (cases_Bool (starts (λ id. is_retired ops id || is_within first last id.counter) (identifier t.site k))) [
        | inr e ↦ e
        | inl e ↦ elim (or_cases (is_retired ops (following (identifier t.site k))) (is_within first last (suc k)) (and_parts _ _ e).1) [
          | inl r ↦ (let below = retired_reached ops (lawful_countable ops l) (following (identifier t.site k)) r in absurd (omega arith))
          | inr w ↦ (let high = leb-true (suc k) last (and_parts (nat_le first (suc k)) (nat_le (suc k) last) w).1 in absurd (omega arith))
        ]
      ]

-- ---- reservations
abbrev pub MakesReservation : Body → Type 0
MakesReservation (Reserve window) = Unit {0}
MakesReservation _ = ⊥

-- counts of reservations: of sets in which each reservation of the site that reads as made has its Reserve
abbrev pub HasReserves : History Body → ℕ → Type 0
HasReserves ops site = (k : ℕ) → is_some ((view ops).reservation (identifier site k)) ≡ true → HasReserve ops (identifier site k)

pub lawful_reserves : (ops : History Body) → IsLawful ops → (site : ℕ) → HasReserves ops site
lawful_reserves ops l site k = reserve_of ops (identifier site k) l

abbrev is_reservation : History Body → StampValue → Bool
is_reservation ops id = is_some ((view ops).reservation id)

module _ (ops : History Body) (l : IsCountable ops) (site : ℕ) (made : HasReserves ops site) where
  reservations_beyond : (k : ℕ) → suc (counter_of (version_of ops) site) ≤ k → is_reservation ops (identifier site k) ≡ false
  reservations_beyond k far = elim (cases_Bool (is_reservation ops (identifier site k))) [
    | inl t ↦ (
        let f = made k t in
        let le = reached ops l site k (Reserve f.0) f.1 in absurd (omega arith))
    | inr t ↦ t
  ]

  -- another set of which each reservation is one of this
  pub reservations_counted : (more : History Body) → ((k : ℕ) → is_reservation more (identifier site k) ≡ true → is_reservation ops (identifier site k) ≡ true) → reservations_of (view more) site ≤ reservations_of (view ops) site
  reservations_counted more has =
      let n : ℕ = suc (counter_of (version_of more) site) in
      let p : ℕ → Bool = λ k. is_reservation ops (identifier site k) in
      let a = fewer (λ k. is_reservation more (identifier site k)) p n 0 (λ k h t. has k t) in
      let b = shorter p n (suc (counter_of (version_of ops) site)) 0 (λ k h. reservations_beyond k (omega arith)) in
      omega arith

  pub reservations_one_more : (more : History Body) (c : ℕ) → ((k : ℕ) → is_reservation more (identifier site k) ≡ true → (is_reservation ops (identifier site k) ≡ true) ⊎ (k ≡ c)) → reservations_of (view more) site ≤ reservations_of (view ops) site + 1
  reservations_one_more more c has =
      let n : ℕ = suc (counter_of (version_of more) site) in
      let p : ℕ → Bool = λ k. is_reservation ops (identifier site k) in
      let a = one_more (λ k. is_reservation more (identifier site k)) p c n 0 has in
      let b = shorter p n (suc (counter_of (version_of ops) site)) 0 (λ k h. reservations_beyond k (omega arith)) in
      omega arith

-- a reservation of the larger set that was made in the smaller
reservation_back : (ops more : History Body) → Includes more ops → (id : StampValue) → is_reservation more id ≡ true → HasReserve ops id → is_reservation ops id ≡ true
reservation_back ops more includes id t s = made_from ops id s (elim (cases_Bool (is_retired ops id)) [
  | inl r ↦ absurd (both_ways _ (standing_whole more id t).0 (retired_more ops more id includes r))
  | inr r ↦ r
])

reserve_pushed : (ops : History Body) (new : StampValue × Body) (id : StampValue) → HasReserve (ops ++ new ∷ []) id → HasReserve ops id ⊎ ((new.0 ≡ id) × MakesReservation new.1)
reserve_pushed ops new id s = elim (Has-push ops new (id, Reserve s.0) s.1) [
  | inl h ↦ inl (s.0, h)
  | inr e ↦ inr (ap (λ (x : StampValue × Body). x.0) e, subst MakesReservation (ap (λ (x : StampValue × Body). x.1) (sym e)) tt)
]

pub reservations_added : (ops : History Body) (new : StampValue × Body) → IsLawful ops → IsLawful (ops ++ new ∷ []) → (site : ℕ) → reservations_of (view (ops ++ new ∷ [])) site ≤ reservations_of (view ops) site + 1
reservations_added ops new l m site = reservations_one_more ops (lawful_countable ops l) site (lawful_reserves ops l site) (ops ++ new ∷ []) new.0.counter (λ k t.
    elim (reserve_pushed ops new (identifier site k) (lawful_reserves (ops ++ new ∷ []) m site k t)) [
      | inl s ↦ inl (reservation_back ops (ops ++ new ∷ []) (Has-left ops (new ∷ [])) (identifier site k) t s)
      | inr e ↦ inr (ap (λ (x : StampValue). x.counter) (sym e.0))
    ])

pub reservations_kept : (ops : History Body) (new : StampValue × Body) → IsLawful ops → IsLawful (ops ++ new ∷ []) → (MakesReservation new.1 → ⊥) → (site : ℕ) → reservations_of (view (ops ++ new ∷ [])) site ≤ reservations_of (view ops) site
reservations_kept ops new l m other site = reservations_counted ops (lawful_countable ops l) site (lawful_reserves ops l site) (ops ++ new ∷ []) (λ k t.
    elim (reserve_pushed ops new (identifier site k) (lawful_reserves (ops ++ new ∷ []) m site k t)) [
      | inl s ↦ reservation_back ops (ops ++ new ∷ []) (Has-left ops (new ∷ [])) (identifier site k) t s
      | inr e ↦ absurd (other e.1)
    ])

pub own_reservations : (ops more : History Body) (site : ℕ) → HasSameOwn ops more site → IsCountable more → HasReserves ops site → HasReserves more site → reservations_of (view ops) site ≤ reservations_of (view more) site
own_reservations ops more site same m mine theirs = reservations_counted more m site theirs ops (λ k t.
    let s = mine k t in
    made_from more (identifier site k) (s.0, same.there _ s.1 refl) (sym (own_retired ops more site same (identifier site k) refl) ∙ (standing_whole ops (identifier site k) t).0))
