-- The laws of the version of a history.
use Rattle.std.proofs.Common.{◌≡◌, ◌⊎◌, ℕ, zero, suc, ◌≤◌, ◌<◌, max, List, [], ◌∷◌, ◌++◌, length, replicate, set, slice_index, get_or, get_or-set_same, length-set, refl, sym, ap, subst, ◌∙◌, inl, inr, arith}
use Rattle.std.proofs.lemmas.Bool.{le-leb, cases_lt}
use Rattle.std.proofs.lemmas.List.{ext_get_or}
use Rattle.fed_stamp.specs.Stamp.{StampValue}
use Rattle.fed_stamp.specs.Version.{counter_of, joined, raised}
use Rattle.fed_stamp.proofs.VersionLaws.{joined-comm}
use Rattle.fed_lattice.specs.Sets.{Has, Includes, IsSameSet}
use Rattle.fed_lattice.specs.History.{History, IsCovered}
use Rattle.fed_lattice.specs.VersionOf.{version_of, HasSites}

-- ---- a version that is raised
-- a write changes one place alone
set_cases : (v : List ℕ) (i m j : ℕ) → (get_or (set v i m) j 0 ≡ get_or v j 0) ⊎ ((i ≡ j) × (get_or (set v i m) j 0 ≡ m))
set_cases [] i m j = inl refl
set_cases (x ∷ v) zero m zero = inr (refl, refl)
set_cases (x ∷ v) zero m (suc j) = inl refl
set_cases (x ∷ v) (suc i) m zero = inl refl
set_cases (x ∷ v) (suc i) m (suc j) = elim (set_cases v i m j) [ inl e ↦ inl e | inr p ↦ inr (ap suc p.0, p.1) ]

-- each counter is as before, or that of the stamp and at its site
pub raised_cases : (v : List ℕ) (s : StampValue) (i : ℕ) → (counter_of (raised v s) i ≡ counter_of v i) ⊎ ((s.site ≡ i) × (counter_of (raised v s) i ≡ max (counter_of v i) s.counter))
raised_cases v s i = elim (set_cases v s.site (max (counter_of v s.site) s.counter) i) [
  | inl e ↦ inl e
  | inr p ↦ inr (p.0, p.1 ∙ ap (λ j. max (counter_of v j) s.counter) p.0)
]

raised_own : (v : List ℕ) (s : StampValue) → s.site < length v → s.counter ≤ counter_of (raised v s) s.site
raised_own v s small =
    let e : counter_of (raised v s) s.site ≡ max (counter_of v s.site) s.counter = get_or-set_same v s.site _ 0 small in omega arith

-- to raise one side of a join raises the join
set_joined : (v w : List ℕ) (i c : ℕ) → length v ≡ length w → set (joined v w) i (max (slice_index (joined v w) i) c) ≡ joined (set v i (max (slice_index v i) c)) w
unfolding joined
set_joined [] [] i c e = refl
set_joined [] (y ∷ w) i c e = absurd (omega arith)
set_joined (x ∷ v) [] i c e = absurd (omega arith)
set_joined (x ∷ v) (y ∷ w) zero c e = let m : max (max x y) c ≡ max (max x c) y = omega arith in ap (λ n. n ∷ joined v w) m
set_joined (x ∷ v) (y ∷ w) (suc i) c e = ap (λ l. max x y ∷ l) (set_joined v w i c (omega arith))

pub joined_zeros : (n : ℕ) (w : List ℕ) → length w ≡ n → joined (replicate n 0) w ≡ w
unfolding joined
joined_zeros zero w e = refl
joined_zeros (suc n) [] e = absurd (omega arith)
joined_zeros (suc n) (y ∷ w) e = let m : max 0 y ≡ y = omega arith in let t : joined (replicate n 0) w ≡ w = joined_zeros n w (omega arith) in cc

pub counter_of_zeros : (n i : ℕ) → counter_of (replicate n 0) i ≡ 0
counter_of_zeros zero i = refl
counter_of_zeros (suc n) zero = refl
counter_of_zeros (suc n) (suc i) = counter_of_zeros n i

module _ {C : Type 0} where
  pub length-version_of : (h : History C) → length (version_of h) ≡ 16
  length-version_of [] = refl
  length-version_of (e ∷ h) = length-set (version_of h) e.0.site _ ∙ length-version_of h

  -- a union has the join of the versions
  pub version_of-append : (g h : History C) → version_of (g ++ h) ≡ joined (version_of g) (version_of h)
  version_of-append [] h = sym (joined_zeros 16 (version_of h) (length-version_of h))
  version_of-append (e ∷ g) h =
      ap (λ v. raised v e.0) (version_of-append g h)
      ∙ set_joined (version_of g) (version_of h) e.0.site e.0.counter (length-version_of g ∙ sym (length-version_of h))

  -- one change more raises the version
  pub version_of-push : (h : History C) (e : StampValue × C) → version_of (h ++ e ∷ []) ≡ raised (version_of h) e.0
  version_of-push h e =
      let none : History C = [] in
      version_of-append h (e ∷ []) ∙ joined-comm (version_of h) (version_of (e ∷ []))
      ∙ sym (set_joined (version_of none) (version_of h) e.0.site e.0.counter (sym (length-version_of h)))
      ∙ ap (λ v. raised v e.0) (joined_zeros 16 (version_of h) (length-version_of h))

  -- it covers every change that was made at one of the 16 sites
  pub version_of-Has : (h : History C) (e : StampValue × C) → Has h e → e.0.site < 16 → e.0.counter ≤ counter_of (version_of h) e.0.site
  version_of-Has [] e k small = absurd k
  version_of-Has (d ∷ h) e (inl p) small =
      let l : length (version_of h) ≡ 16 = length-version_of h in
      subst (λ (x : StampValue × C). x.0.site < 16 → x.0.counter ≤ counter_of (raised (version_of h) d.0) x.0.site) p
      (λ k. raised_own (version_of h) d.0 (omega arith)) small
  version_of-Has (d ∷ h) e (inr k) small =
      let below : e.0.counter ≤ counter_of (version_of h) e.0.site = version_of-Has h e k small in
      elim (raised_cases (version_of h) d.0 e.0.site) [ inl p ↦ omega arith | inr p ↦ let q = p.1 in omega arith ]

  pub version_of-covers : (h : History C) → HasSites h → IsCovered (version_of h) h
  version_of-covers h sites e k = le-leb e.0.counter _ (version_of-Has h e k (sites e k))

  -- the change of h at the site i that has the counter n
  abbrev pub Origin : History C → ℕ → ℕ → Type 0
  Origin h i n = (e : StampValue × C) × Has h e × (e.0.site ≡ i) × (n ≡ e.0.counter)

  older : (d : StampValue × C) (h : History C) (i : ℕ) → (counter_of (version_of h) i ≡ 0) ⊎ Origin h i (counter_of (version_of h) i) → counter_of (version_of (d ∷ h)) i ≡ counter_of (version_of h) i
      → (counter_of (version_of (d ∷ h)) i ≡ 0) ⊎ Origin (d ∷ h) i (counter_of (version_of (d ∷ h)) i)
  older d h i (inl z) p = inl (p ∙ z)
  older d h i (inr o) p = inr (o.0, inr o.1, o.2, p ∙ o.3)

  -- each counter is 0 or that of a change at the site
  pub version_of-origin : (h : History C) (i : ℕ) → (counter_of (version_of h) i ≡ 0) ⊎ Origin h i (counter_of (version_of h) i)
  version_of-origin [] i = inl (counter_of_zeros 16 i)
  version_of-origin (d ∷ h) i = elim (raised_cases (version_of h) d.0 i) [
    | inl p ↦ older d h i (version_of-origin h i) p
    | inr p ↦ elim (cases_lt (counter_of (version_of h) i) d.0.counter) [
      | inl k ↦ (let q = p.1 in inr (d, inl refl, p.0, omega arith))
      | inr k ↦ (let q = p.1 in older d h i (version_of-origin h i) (omega arith))
    ]
  ]

  -- a bound on the counters of a site bounds the version there
  pub version_of-most : (h : History C) (i b : ℕ) → ((e : StampValue × C) → Has h e → e.0.site ≡ i → e.0.counter ≤ b) → counter_of (version_of h) i ≤ b
  version_of-most h i b most = elim (version_of-origin h i) [
    | inl z ↦ omega arith
    | inr o ↦ let k = most o.0 o.1 o.2 in let q = o.3 in omega arith
  ]

  version_of-within : (g h : History C) → Includes h g → (i : ℕ) → i < 16 → counter_of (version_of g) i ≤ counter_of (version_of h) i
  version_of-within g h more i small = version_of-most g i _
      (λ e k p. subst (λ j. e.0.counter ≤ counter_of (version_of h) j) p (version_of-Has h e (more e k) (subst (λ j. j < 16) (sym p) small)))

  -- it depends on the members alone
  pub version_of-same : (g h : History C) → IsSameSet g h → version_of g ≡ version_of h
  version_of-same g h same =
      let l : length (version_of g) ≡ 16 = length-version_of g in
      ext_get_or 0 (version_of g) (version_of h) (length-version_of g ∙ sym (length-version_of h)) (λ i k.
      let small : i < 16 = omega arith in
      let a : counter_of (version_of g) i ≤ counter_of (version_of h) i = version_of-within g h same.1 i small in
      let b : counter_of (version_of h) i ≤ counter_of (version_of g) i = version_of-within h g same.0 i small in omega arith)
