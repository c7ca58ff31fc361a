-- A history grows by what a site adds that has all that was made there.
use Rattle.std.proofs.Common.{◌≡◌, ℕ, ◌≤◌, ◌<◌, [], ◌∷◌, ◌++◌, true, sym, ap, subst, ◌∙◌, inl, inr, arith}
use Rattle.std.proofs.lemmas.Bool.{cases_eq, leb-true, or_cases}
use Rattle.fed_stamp.specs.Stamp.{StampValue}
use Rattle.fed_stamp.specs.Version.{counter_of, covers}
use Rattle.fed_stamp.proofs.VersionLaws.{covers-joined}
use Rattle.fed_lattice.specs.Sets.{Has}
use Rattle.fed_lattice.specs.SetLaws.{Has-left, Has-right, Has-push, Has-only}
use Rattle.fed_lattice.specs.History.{History, IsFresh}
use Rattle.fed_lattice.specs.VersionOf.{version_of}
use Rattle.fed_lattice.proofs.VersionOfLaws.{version_of-append, version_of-origin}
use Rattle.fed_model.specs.declared.beginnings.Beginning.{Beginning}
use Rattle.fed_model.specs.Body.{Body, Body.OfJob, JobBody.Grant, JobBody.HandBack, JobBody.Begin, JobBody.Finish}
use Rattle.fed_model.specs.Lawful.{IsGrounded, IsHolder, IsLawful}
use Rattle.fed_theory.specs.MayFollow.{MayFollow}
use Rattle.fed_theory.proofs.GrowthLaws.{lawful_push}
use Rattle.fed_theory.proofs.LawfulLaws.{grounded_more}
use Rattle.fed_theory.proofs.Allowed.{IsPlaced, IsAllowed}
use Rattle.fed_theory.proofs.NextStamps.{IsNext, counter_below}
use Rattle.fed_theory.proofs.Cuts.{AreCounted, IsHeld, IsCut, placed_more, returner, same_grant, same_term, cut_lawful}

-- a site has what was made there
abbrev pub HasOwn : History Body → History Body → ℕ → Type 0
HasOwn history ops here = (e : StampValue × Body) → Has history e → e.0.site ≡ here → Has ops e

module _ (history ops : History Body) (here : ℕ) (new : StampValue × Body)
    (l : IsLawful history) (counted : AreCounted history)
    (placed : (e : StampValue × Body) → Has history e → IsPlaced history e.0 e.1)
    (cut : IsCut history ops) (own : HasOwn history ops here)
    (next : IsNext (version_of ops) here new.0) (allowed : IsAllowed ops new.0 new.1) where
  -- ---- what the site knows, nobody has gone beyond
  -- a grant to the site is handed back nowhere but at the site
  not_returned : (job s : StampValue) (term : ℕ) → Has ops (s, OfJob job (Grant here term)) → ((t : StampValue) → Has ops (t, OfJob job (HandBack term)) → ⊥) → (t : StampValue) → Has history (t, OfJob job (HandBack term)) → ⊥
  not_returned job s term g kept t h = kept t (own (t, OfJob job (HandBack term)) h (returner history l job s t here term (cut.within _ g) h))

  -- a job whose grant the site holds has begun nowhere else
  begun_here : (job s t : StampValue) (term : ℕ) (a : Beginning) → Has ops (s, OfJob job (Grant here term)) → ((u : StampValue) → Has ops (u, OfJob job (HandBack term)) → ⊥) → Has history (t, OfJob job (Begin a)) → t.site ≡ here
  begun_here job s t term a g kept h =
      let holder = l.begun_held job t a h in
      let low : term ≤ holder.term = holder.greatest s here term (cut.within _ g) in
      let high : holder.term ≤ term = same_term history l job s holder.stamp here t.site term holder.term (cut.within _ g) holder.granted (not_returned job s term g kept) in
      let same : holder.term ≡ term = omega arith in
      same_grant history l job holder.stamp s t.site here term (subst (λ (n : ℕ). Has history (holder.stamp, OfJob job (Grant t.site n))) same holder.granted) (cut.within _ g)

  no_begin : (job s : StampValue) (term : ℕ) → Has ops (s, OfJob job (Grant here term)) → ((u : StampValue) → Has ops (u, OfJob job (HandBack term)) → ⊥) → ((t : StampValue) (a : Beginning) → Has ops (t, OfJob job (Begin a)) → ⊥) → (t : StampValue) (a : Beginning) → Has history (t, OfJob job (Begin a)) → ⊥
  no_begin job s term g kept idle t a h = idle t a (own (t, OfJob job (Begin a)) h (begun_here job s t term a g kept h))

  still_holds : (job : StampValue) → IsHolder ops job here → IsHolder history job here
  still_holds job h = record {
    stamp = h.stamp;
    term = h.term;
    granted = cut.within _ h.granted;
    greatest = λ t other k g. same_term history l job h.stamp t here other h.term k (cut.within _ h.granted) g (not_returned job h.stamp h.term h.granted h.kept);
    kept = not_returned job h.stamp h.term h.granted h.kept;
  }

  -- what may follow the site's set may follow the history
  follows : (t : StampValue) (body : Body) → t.site ≡ here → IsGrounded ops t body → IsPlaced ops t body → MayFollow ops t body → MayFollow history t body
  follows t (OfJob job (Grant site term)) at g p m = λ s other h.
      let origin : s.site ≡ job.site = placed (s, OfJob job (Grant other term)) h in
      m s other (own (s, OfJob job (Grant other term)) h (origin ∙ sym p ∙ at))
  follows t (OfJob job (HandBack term)) at g p m =
      let mine : Has ops (g.1.0, OfJob job (Grant here term)) = subst (λ (n : ℕ). Has ops (g.1.0, OfJob job (Grant n term))) at g.1.1.0 in
      (not_returned job g.1.0 term mine m.0, no_begin job g.1.0 term mine m.0 m.1)
  follows t (OfJob job (Begin a)) at g p m =
      let holder : IsHolder ops job here = subst (IsHolder ops job) at m.1 in
      (no_begin job holder.stamp holder.term holder.granted holder.kept m.0, subst (IsHolder history job) (sym at) (still_holds job holder))
  follows t (OfJob job (Finish ending)) at g p m = λ s a h.
      let f = placed (s, OfJob job (Finish a)) h in
      let same : f.0 ≡ p.0 = l.one_begin job f.0 p.0 f.1 p.1 f.2 (cut.within _ p.2) in
      m s a (own (s, OfJob job (Finish a)) h (sym f.3 ∙ ap (λ (u : StampValue). u.site) same ∙ p.3 ∙ at))
  follows t _ at g p m = tt

  pub may : MayFollow history new.0 new.1
  may = follows new.0 new.1 next.site allowed.grounded allowed.placed allowed.may

  new_may : (f : StampValue × Body) → new ≡ f → MayFollow history f.0 f.1
  new_may f q = subst (λ (x : StampValue × Body). MayFollow history x.0 x.1) q may

  -- ---- the stamp is new everywhere
  ops_lawful : IsLawful ops
  ops_lawful = cut_lawful history ops l cut

  above_own : (e : StampValue × Body) → Has history e → e.0.site ≡ here → e.0.counter < new.0.counter
  above_own e h at = counter_below ops ops_lawful.sites here new.0 next e (own e h at)

  fresh : IsFresh new.0 history
  fresh e h same =
      let at : e.0.site ≡ here = ap (λ (s : StampValue). s.site) same ∙ next.site in
      let below = above_own e h at in
      let q : e.0.counter ≡ new.0.counter = ap (λ (s : StampValue). s.counter) same in omega arith

  pub lawful_more : here < 16 → IsLawful (history ++ new ∷ [])
  lawful_more small =
      let at = next.site in
      lawful_push history new l fresh
      (grounded_more ops (history ++ new ∷ []) (λ e h. Has-left history (new ∷ []) e (cut.within e h)) new.0 new.1 allowed.grounded) may (omega arith)

  -- no cut covers it
  pub uncovered : (others : History Body) → IsCut history others → covers (version_of others) new.0 ≡ true → ⊥
  uncovered others p c =
      let le : new.0.counter ≤ counter_of (version_of others) new.0.site = leb-true new.0.counter _ c in
      let above = next.counter in
      elim (version_of-origin others new.0.site) [
        | inl z ↦ omega arith
        | inr o ↦ (let below = above_own o.0 (p.within o.0 o.1) (o.2 ∙ next.site) in let is = o.3 in omega arith)
      ]

  -- ---- cuts of the larger history
  held_push : (others : History Body) (job s : StampValue) (a : Beginning) → Has history (s, OfJob job (Begin a)) → IsHeld history others job s.site → IsHeld (history ++ new ∷ []) others job s.site
  held_push others job s a begun h = record {
    stamp = h.stamp;
    term = h.term;
    granted = h.granted;
    kept = λ t k. elim (Has-push history new (t, OfJob job (HandBack h.term)) k) [
      | inl q ↦ h.kept t q
      | inr q ↦ (new_may (t, OfJob job (HandBack h.term)) q).1 s a begun
    ];
  }

  -- a set that doesn't have the operation
  pub cut_kept : (others : History Body) → IsCut history others → IsCut (history ++ new ∷ []) others
  cut_kept others p = record {
    within = λ e h. Has-left history (new ∷ []) e (p.within e h);
    whole = λ e h c. elim (Has-push history new e h) [
      | inl k ↦ p.whole e k c
      | inr q ↦ absurd (uncovered others p (subst (λ (x : StampValue × Body). covers (version_of others) x.0 ≡ true) (sym q) c))
    ];
    grounded = p.grounded;
    placed = p.placed;
    held = λ job s a h. held_push others job s a (p.within _ h) (p.held job s a h);
  }

  -- what the site's new version covers of the history, the site has
  had : (e : StampValue × Body) → Has history e → covers (version_of (ops ++ new ∷ [])) e.0 ≡ true → Has ops e
  had e h c =
      let only : History Body = new ∷ [] in
      let both = sym (covers-joined (version_of ops) (version_of only) e.0) ∙ ap (λ v. covers v e.0) (sym (version_of-append ops only)) ∙ c in
      elim (cases_eq e.0.site here) [
        | inl at ↦ own e h at
        | inr apart ↦ elim (or_cases (covers (version_of ops) e.0) (covers (version_of only) e.0) both) [
          | inl k ↦ cut.whole e h k
          | inr k ↦ (
              let positive = (counted e h).0 in
              let le : e.0.counter ≤ counter_of (version_of only) e.0.site = leb-true e.0.counter _ k in
              elim (version_of-origin only e.0.site) [
                | inl z ↦ absurd (omega arith)
                | inr o ↦ absurd (apart (sym o.2 ∙ ap (λ (x : StampValue × Body). x.0.site) (sym (Has-only new o.0 o.1)) ∙ next.site))
              ])
        ]
      ]

  -- the site's set with the operation
  pub cut_more : IsCut (history ++ new ∷ []) (ops ++ new ∷ [])
  cut_more = record {
    within = λ e h. elim (Has-push ops new e h) [
      | inl k ↦ Has-left history (new ∷ []) e (cut.within e k)
      | inr q ↦ Has-right history (new ∷ []) e (inl q)
    ];
    whole = λ e h c. elim (Has-push history new e h) [
      | inl k ↦ Has-left ops (new ∷ []) e (had e k c)
      | inr q ↦ Has-right ops (new ∷ []) e (inl q)
    ];
    grounded = λ e h. grounded_more ops (ops ++ new ∷ []) (Has-left ops (new ∷ [])) e.0 e.1 (elim (Has-push ops new e h) [
      | inl k ↦ cut.grounded e k
      | inr q ↦ subst (λ (x : StampValue × Body). IsGrounded ops x.0 x.1) q allowed.grounded
    ]);
    placed = λ e h. placed_more ops (ops ++ new ∷ []) (Has-left ops (new ∷ [])) e.0 e.1 (elim (Has-push ops new e h) [
      | inl k ↦ cut.placed e k
      | inr q ↦ subst (λ (x : StampValue × Body). IsPlaced ops x.0 x.1) q allowed.placed
    ]);
    held = λ job s a h. elim (Has-push ops new (s, OfJob job (Begin a)) h) [
      | inl k ↦ (
          let p = held_push ops job s a (cut.within _ k) (cut.held job s a k) in
          record { stamp = p.stamp; term = p.term; granted = Has-left ops (new ∷ []) _ p.granted; kept = p.kept })
      | inr q ↦ newly job s a q
    ];
  }
    where
      newly : (job s : StampValue) (a : Beginning) → new ≡ (s, OfJob job (Begin a)) → IsHeld (history ++ new ∷ []) (ops ++ new ∷ []) job s.site
      newly job s a q =
          let m = (subst (λ (x : StampValue × Body). MayFollow ops x.0 x.1) q allowed.may).1 in
          let at : s.site ≡ here = ap (λ (x : StampValue × Body). x.0.site) (sym q) ∙ next.site in
          let mine : Has ops (m.stamp, OfJob job (Grant here m.term)) = subst (λ (n : ℕ). Has ops (m.stamp, OfJob job (Grant n m.term))) at m.granted in
          record {
            stamp = m.stamp;
            term = m.term;
            granted = Has-left ops (new ∷ []) _ m.granted;
            kept = λ t k. elim (Has-push history new (t, OfJob job (HandBack m.term)) k) [
              | inl h ↦ not_returned job m.stamp m.term mine m.kept t h
              | inr r ↦ (let b : ◌≡◌ {A = Body} (OfJob job (Begin a)) (OfJob job (HandBack m.term)) = ap (λ (x : StampValue × Body). x.1) (sym q ∙ r) in cc)
            ];
          }
