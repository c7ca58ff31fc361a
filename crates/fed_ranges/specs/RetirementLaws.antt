-- The laws of what one site has retired.
use Rattle.std.specs.Prelude.{◌&&◌, nat_eq, nat_lt, max, if◌then◌else◌}
use Rattle.std.specs.Cmp.{IsPartialEquivalence, both_ways}
use Rattle.std.specs.Cmp.Lexicographic.{pointwise}
use Rattle.std.specs.List.{list_any}
use Rattle.std.proofs.Common.{◌≡◌, ℕ, List, [], ◌∷◌, ◌++◌, Bool, true, false, ◌||◌, refl, sym, ap, ap₂, ◌∙◌, inl, inr, arith}
use Rattle.std.proofs.lemmas.Bool.{and_parts, and_from, cases_Bool, cases_lt, ltb-true, ltb-false}
use Rattle.fed_stamp.specs.Stamp.{StampValue}
use Rattle.fed_lattice.specs.Exact.{TellsApart}
use Rattle.fed_lattice.specs.ExactLaws.{tells_numbers, tells_lists}
use Rattle.fed_lattice.specs.FlagLaws.{or_assoc}
use Rattle.fed_lattice.specs.History.{History, IsFresh, Agree}
use Rattle.fed_lattice.specs.Sets.{IsSameSet}
use Rattle.fed_lattice.specs.SetLaws.{Has-left, Has-right, Has-cases, any_same}
use Rattle.fed_ranges.specs.declared.ranges.Range.{Range}
use Rattle.fed_ranges.specs.Ranges.{is_in, has, AreApart, added}
use Rattle.fed_ranges.specs.RangeLaws.{in_low, in_high, added_has, added_apart, joined_has, joined_apart, joined_assoc, joined_comm, joined_itself}
use Rattle.fed_ranges.specs.Retirements.{RetirementsValue, no_retirements, with_range, applied_retirements, joined_retirements, AreCanonical, IsLatest, retirements_stand_for}

-- ---- equality
abbrev same_range : Range → Range → Bool
same_range r s = nat_eq r.first s.first && nat_eq r.last s.last

tells_ranges : TellsApart same_range
tells_ranges r s = (
  λ e.
      let p = and_parts (nat_eq r.first s.first) _ e in
      let first = (tells_numbers r.first s.first).0 p.0 in
      let last = (tells_numbers r.last s.last).0 p.1 in
      λ i. record { first = first i; last = last i },
  λ e. and_from _ _ ((tells_numbers r.first s.first).1 (ap (λ (x : Range). x.first) e)) ((tells_numbers r.last s.last).1 (ap (λ (x : Range). x.last) e)),
)

abbrev pub same_ranges : List Range → List Range → Bool
same_ranges = pointwise same_range

pub tells_range_lists : TellsApart same_ranges
tells_range_lists = tells_lists same_range tells_ranges

abbrev pub same_retirements : RetirementsValue → RetirementsValue → Bool
same_retirements x y = nat_eq x.latest y.latest && same_ranges x.ranges y.ranges

pub tells_retirements : TellsApart same_retirements
tells_retirements x y = (
  λ e.
      let p = and_parts (nat_eq x.latest y.latest) _ e in
      let latest = (tells_numbers x.latest y.latest).0 p.0 in
      let ranges = (tells_range_lists x.ranges y.ranges).0 p.1 in
      λ i. record { latest = latest i; ranges = ranges i },
  λ e. and_from _ _ ((tells_numbers x.latest y.latest).1 (ap (λ (z : RetirementsValue). z.latest) e)) ((tells_range_lists x.ranges y.ranges).1 (ap (λ (z : RetirementsValue). z.ranges) e)),
)

pub per_from_tells : {X : Type 0} (eq : X → X → Bool) → TellsApart eq → IsPartialEquivalence eq
per_from_tells eq tells = record {
  symm = λ a b. both_ways _ _ (λ e. (tells b a).1 (sym ((tells a b).0 e))) (λ e. (tells a b).1 (sym ((tells b a).0 e)));
  trans = λ a b c p q. (tells a c).1 ((tells a b).0 p ∙ (tells b c).0 q);
}

pub ranges_per : IsPartialEquivalence same_ranges
ranges_per = per_from_tells same_ranges tells_range_lists

pub retirements_per : IsPartialEquivalence same_retirements
retirements_per = per_from_tells same_retirements tells_retirements

-- ---- the lattice
pub formed_applied : (x : RetirementsValue) (s : StampValue) (c : Range) → AreCanonical x → AreCanonical (applied_retirements x s c)
formed_applied x s c a = go (nat_lt c.last c.first) refl
  where
    go : (b : Bool) → nat_lt c.last c.first ≡ b → AreApart 0 (if b then x.ranges else added c x.ranges)
    go true e = a
    go false e = added_apart 0 c x.ranges (omega arith) (ltb-false c.last c.first e) a

pub formed_joined : (x y : RetirementsValue) (v w : List ℕ) → AreCanonical x → AreCanonical y → AreCanonical (joined_retirements x v y w)
formed_joined x y v w a b = joined_apart x.ranges y.ranges 0 a b

max_assoc : (a b c : ℕ) → max (max a b) c ≡ max a (max b c)
max_assoc a b c = omega arith

max_comm : (a b : ℕ) → max a b ≡ max b a
max_comm a b = omega arith

max_itself : (a : ℕ) → max a a ≡ a
max_itself a = omega arith

pub retirements_assoc : (x y z : RetirementsValue) (u v w : List ℕ) → AreCanonical x → AreCanonical y → AreCanonical z → joined_retirements (joined_retirements x u y v) u z w ≡ joined_retirements x u (joined_retirements y v z w) w
retirements_assoc x y z u v w a b c =
    let latest = max_assoc x.latest y.latest z.latest in
    let ranges = joined_assoc x.ranges y.ranges z.ranges a b c in
    λ i. record { latest = latest i; ranges = ranges i }

pub retirements_comm : (x y : RetirementsValue) (v w : List ℕ) → AreCanonical x → AreCanonical y → joined_retirements x v y w ≡ joined_retirements y w x v
retirements_comm x y v w a b =
    let latest = max_comm x.latest y.latest in
    let ranges = joined_comm x.ranges y.ranges a b in
    λ i. record { latest = latest i; ranges = ranges i }

pub retirements_itself : (x : RetirementsValue) (v : List ℕ) → AreCanonical x → joined_retirements x v x v ≡ x
retirements_itself x v a =
    let latest = max_itself x.latest in
    let ranges = joined_itself x.ranges a in
    λ i. record { latest = latest i; ranges = ranges i }

-- ---- what it stands for
abbrev is_among : ℕ → StampValue × Range → Bool
is_among n e = is_in e.1 n

any_append : (p : StampValue × Range → Bool) (g h : History Range) → list_any p (g ++ h) ≡ (list_any p g || list_any p h)
any_append p [] h = refl
any_append p (e ∷ g) h = ap (λ b. p e || b) (any_append p g h) ∙ sym (or_assoc (p e) (list_any p g) (list_any p h))

pub nothing_stands : retirements_stand_for no_retirements []
nothing_stands = (record { most = λ e h. absurd h; made = inl refl }, λ n. refl)

empty_has : (c : Range) (n : ℕ) → nat_lt c.last c.first ≡ true → is_in c n ≡ false
empty_has c n e = elim (cases_Bool (is_in c n)) [
  | inr f ↦ f
  | inl f ↦ (let less = ltb-true c.last c.first e in let low = in_low c n f in let high = in_high c n f in absurd (omega arith))
]

-- the ranges with one more have what it has too
pub with_range_has : (c : Range) (rs : List Range) (n : ℕ) → AreApart 0 rs → has (with_range c rs) n ≡ (is_in c n || has rs n)
with_range_has c rs n a = go (nat_lt c.last c.first) refl
  where
    go : (b : Bool) → nat_lt c.last c.first ≡ b → has (if b then rs else added c rs) n ≡ (is_in c n || has rs n)
    go true e = ap (λ b. b || has rs n) (sym (empty_has c n e))
    go false e = added_has 0 c rs n (ltb-false c.last c.first e) a

latest_added : (latest : ℕ) (h : History Range) (s : StampValue) (c : Range) → IsLatest latest h → IsLatest (max latest s.counter) ((s, c) ∷ h)
latest_added latest h s c l = record {
  most = λ e k. elim k [
    | inl q ↦ (let same : s.counter ≡ e.0.counter = ap (λ (x : StampValue × Range). x.0.counter) q in omega arith)
    | inr k ↦ (let le = l.most e k in omega arith)
  ];
  made = elim (cases_lt s.counter latest) [
    | inr up ↦ inr ((s, c), inl refl, omega arith)
    | inl low ↦ elim l.made [
      | inl zero ↦ absurd (omega arith)
      | inr m ↦ (let at = m.2 in inr (m.0, inr m.1, omega arith))
    ]
  ];
}

pub applied_stands_for : (x : RetirementsValue) (h : History Range) (s : StampValue) (c : Range) → AreCanonical x → retirements_stand_for x h → Unit {0} → IsFresh s h → Unit {0} → retirements_stand_for (applied_retirements x s c) ((s, c) ∷ h)
applied_stands_for x h s c a p t f u = (
  latest_added x.latest h s c p.0,
  λ n. with_range_has c x.ranges n a ∙ ap (λ b. is_in c n || b) (p.1 n),
)

latest_joined : (l m : ℕ) (g h : History Range) → IsLatest l g → IsLatest m h → IsLatest (max l m) (g ++ h)
latest_joined l m g h p q = record {
  most = λ e k. elim (Has-cases g h e k) [
    | inl i ↦ (let le = p.most e i in omega arith)
    | inr i ↦ (let le = q.most e i in omega arith)
  ];
  made = elim (cases_lt l m) [
    | inl low ↦ elim q.made [
      | inl zero ↦ absurd (omega arith)
      | inr e ↦ (let at = e.2 in inr (e.0, Has-right g h e.0 e.1, omega arith))
    ]
    | inr up ↦ elim p.made [
      | inl zero ↦ inl (omega arith)
      | inr e ↦ (let at = e.2 in inr (e.0, Has-left g h e.0 e.1, omega arith))
    ]
  ];
}

pub joined_stand_for : (x y : RetirementsValue) (v w : List ℕ) (g h : History Range) → AreCanonical x → AreCanonical y → retirements_stand_for x g → retirements_stand_for y h → Agree v g w h → Unit {0} → Unit {0} → retirements_stand_for (joined_retirements x v y w) (g ++ h)
joined_stand_for x y v w g h a b p q agree t u = (
  latest_joined x.latest y.latest g h p.0 q.0,
  λ n. joined_has x.ranges y.ranges 0 n a b ∙ ap₂ (λ c d. c || d) (p.1 n) (q.1 n) ∙ sym (any_append (is_among n) g h),
)

pub stand_for_same : (x : RetirementsValue) (g h : History Range) → IsSameSet g h → retirements_stand_for x g → retirements_stand_for x h
stand_for_same x g h same p = (
  record {
    most = λ e k. p.0.most e (same.0 e k);
    made = elim p.0.made [ inl zero ↦ inl zero | inr m ↦ inr (m.0, same.1 m.0 m.1, m.2) ];
  },
  λ n. p.1 n ∙ any_same (is_among n) (is_among n) g h (λ e. refl) same,
)
