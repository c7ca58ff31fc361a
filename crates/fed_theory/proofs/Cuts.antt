-- Sets that were made from one history of operations.
use Rattle.std.proofs.Common.{◌≡◌, ℕ, zero, suc, ◌≤◌, ◌<◌, [], ◌++◌, true, ◌||◌, sym, ap, subst, ◌∙◌, inl, inr, arith}
use Rattle.std.proofs.lemmas.Bool.{cases_eq, cases_lt, leb-true, or_cases}
use Rattle.fed_stamp.specs.declared.stamps.TheConstants.{MAX_COUNTER}
use Rattle.fed_stamp.specs.Stamp.{StampValue}
use Rattle.fed_stamp.specs.Version.{counter_of, covers, is_below}
use Rattle.fed_stamp.proofs.VersionLaws.{below_from_each, covers-joined}
use Rattle.fed_lattice.specs.Sets.{Has, Includes}
use Rattle.fed_lattice.specs.SetLaws.{Has-left, Has-right, Has-cases}
use Rattle.fed_lattice.specs.History.{History}
use Rattle.fed_lattice.specs.VersionOf.{version_of, HasSites}
use Rattle.fed_lattice.proofs.VersionOfLaws.{version_of-append, version_of-origin, version_of-Has}
use Rattle.fed_model.specs.declared.beginnings.Beginning.{Beginning}
use Rattle.fed_model.specs.Body.{Body, Body.OfJob, JobBody.Grant, JobBody.HandBack, JobBody.Begin, JobBody.Finish}
use Rattle.fed_model.specs.Lawful.{IsGrounded, IsHolder, IsLawful, AreKin}
use Rattle.fed_theory.proofs.LawfulLaws.{grounded_more}
use Rattle.fed_theory.proofs.Allowed.{IsPlaced}
use Rattle.fed_theory.proofs.GrowthLaws.{term_positive}

-- ---- terms in a lawful set
module _ (ops : History Body) (l : IsLawful ops) where
  -- of one term there is one grant
  pub same_grant : (job s t : StampValue) (a b term : ℕ) → Has ops (s, OfJob job (Grant a term)) → Has ops (t, OfJob job (Grant b term)) → a ≡ b
  same_grant job s t a b term h k =
      let e = l.distinct (s, OfJob job (Grant a term)) (t, OfJob job (Grant b term)) h k (l.one_grant job s t a b term h k) in
      let p : ◌≡◌ {A = Body} (OfJob job (Grant a term)) (OfJob job (Grant b term)) = ap (λ (x : StampValue × Body). x.1) e in cc

  -- a grant is handed back by the site that it was to
  pub returner : (job s t : StampValue) (site term : ℕ) → Has ops (s, OfJob job (Grant site term)) → Has ops (t, OfJob job (HandBack term)) → t.site ≡ site
  returner job s t site term g h =
      let r = (l.grounded (t, OfJob job (HandBack term)) h).1 in same_grant job r.0 s t.site site term r.1.0 g

  -- each term below one that was granted was handed back
  pub returned_below : (job s : StampValue) (site term k : ℕ) → Has ops (s, OfJob job (Grant site term)) → 1 ≤ k → k < term → (t : StampValue) × Has ops (t, OfJob job (HandBack k))
  returned_below job s site zero k h p q = absurd (omega arith)
  returned_below job s site (suc zero) k h p q = absurd (omega arith)
  returned_below job s site (suc (suc term)) k h p q =
      let r = (l.grounded (s, OfJob job (Grant site (suc (suc term)))) h).1 in
      let g = (l.grounded (r.0, OfJob job (HandBack (suc term))) r.1.0).1 in
      let below = returned_below job g.0 r.0.site (suc term) k g.1.0 p in
      elim (cases_eq k (suc term)) [
        | inl e ↦ (r.0, subst (λ (n : ℕ). Has ops (r.0, OfJob job (HandBack n))) (sym e) r.1.0)
        | inr differ ↦ below (omega arith)
      ]

  -- of two grants that are not handed back neither term is above the other
  pub same_term : (job s t : StampValue) (a b k m : ℕ) → Has ops (s, OfJob job (Grant a k)) → Has ops (t, OfJob job (Grant b m)) → ((u : StampValue) → Has ops (u, OfJob job (HandBack k)) → ⊥) → m ≤ k
  same_term job s t a b k m g h kept = elim (cases_lt k m) [
    | inr p ↦ p
    | inl p ↦ (let r = returned_below job t b m k h (term_positive ops l job s a k g) p in absurd (kept r.0 r.1))
  ]

-- ---- what is placed in a set is placed in a larger one
module _ (ops more : History Body) (includes : Includes more ops) where
  pub placed_more : (t : StampValue) (body : Body) → IsPlaced ops t body → IsPlaced more t body
  placed_more t (OfJob job (Grant site term)) p = p
  placed_more t (OfJob job (Finish ending)) p = (p.0, p.1, includes _ p.2, p.3)
  placed_more t _ p = tt

  -- a larger set has a version that is not below
  pub version_more : HasSites ops → is_below (version_of ops) (version_of more) ≡ true
  version_more sites = below_from_each (version_of ops) (version_of more) (λ i. elim (version_of-origin ops i) [
    | inl z ↦ omega arith
    | inr o ↦ (
        let small : o.0.0.site < 16 = sites o.0 o.1 in
        let le : o.0.0.counter ≤ counter_of (version_of more) o.0.0.site = version_of-Has more o.0 (includes o.0 o.1) small in
        let at : o.0.0.counter ≤ counter_of (version_of more) i = subst (λ (j : ℕ). o.0.0.counter ≤ counter_of (version_of more) j) o.2 le in
        let is = o.3 in omega arith)
  ])

-- ---- cuts
-- the set has a grant of the job to the site that the history doesn't have handed back
pub record IsHeld (history ops : History Body) (job : StampValue) (site : ℕ) : Type 0 where
  pub stamp : StampValue
  pub term : ℕ
  pub granted : Has ops (stamp, OfJob job (Grant site term))
  pub kept : (s : StampValue) → Has history (s, OfJob job (HandBack term)) → ⊥

-- a set of the history: of each site the operations up to some counter, with all that they rest on
pub record IsCut (history ops : History Body) : Type 0 where
  pub within : Includes history ops
  pub whole : (e : StampValue × Body) → Has history e → covers (version_of ops) e.0 ≡ true → Has ops e
  pub grounded : (e : StampValue × Body) → Has ops e → IsGrounded ops e.0 e.1
  pub placed : (e : StampValue × Body) → Has ops e → IsPlaced ops e.0 e.1
  pub held : (job s : StampValue) (a : Beginning) → Has ops (s, OfJob job (Begin a)) → IsHeld history ops job s.site

-- each operation has a counter in the range of counters
abbrev pub AreCounted : History Body → Type 0
AreCounted history = (e : StampValue × Body) → Has history e → (0 < e.0.counter) × (e.0.counter ≤ MAX_COUNTER)

pub cut_nothing : (history : History Body) → AreCounted history → IsCut history []
cut_nothing history counted = record {
  within = λ e h. absurd h;
  whole = λ e h c.
      let none : History Body = [] in
      let positive = (counted e h).0 in
      let le : e.0.counter ≤ counter_of (version_of none) e.0.site = leb-true e.0.counter _ c in
      elim (version_of-origin none e.0.site) [ inl z ↦ absurd (omega arith) | inr o ↦ absurd o.1 ];
  grounded = λ e h. absurd h;
  placed = λ e h. absurd h;
  held = λ job s a h. absurd h;
}

held_more : (history ops more : History Body) (job : StampValue) (site : ℕ) → Includes more ops → IsHeld history ops job site → IsHeld history more job site
held_more history ops more job site includes h = record { stamp = h.stamp; term = h.term; granted = includes _ h.granted; kept = h.kept }

-- two cuts together
pub cut_union : (history xs ys : History Body) → IsCut history xs → IsCut history ys → IsCut history (xs ++ ys)
cut_union history xs ys p q = record {
  within = λ e h. elim (Has-cases xs ys e h) [ inl k ↦ p.within e k | inr k ↦ q.within e k ];
  whole = λ e h c. elim (or_cases (covers (version_of xs) e.0) (covers (version_of ys) e.0) (covered e c)) [
    | inl k ↦ Has-left xs ys e (p.whole e h k)
    | inr k ↦ Has-right xs ys e (q.whole e h k)
  ];
  grounded = λ e h. elim (Has-cases xs ys e h) [
    | inl k ↦ grounded_more xs (xs ++ ys) (Has-left xs ys) e.0 e.1 (p.grounded e k)
    | inr k ↦ grounded_more ys (xs ++ ys) (Has-right xs ys) e.0 e.1 (q.grounded e k)
  ];
  placed = λ e h. elim (Has-cases xs ys e h) [
    | inl k ↦ placed_more xs (xs ++ ys) (Has-left xs ys) e.0 e.1 (p.placed e k)
    | inr k ↦ placed_more ys (xs ++ ys) (Has-right xs ys) e.0 e.1 (q.placed e k)
  ];
  held = λ job s a h. elim (Has-cases xs ys (s, OfJob job (Begin a)) h) [
    | inl k ↦ held_more history xs (xs ++ ys) job s.site (Has-left xs ys) (p.held job s a k)
    | inr k ↦ held_more history ys (xs ++ ys) job s.site (Has-right xs ys) (q.held job s a k)
  ];
}
  where
    covered : (e : StampValue × Body) → covers (version_of (xs ++ ys)) e.0 ≡ true → (covers (version_of xs) e.0 || covers (version_of ys) e.0) ≡ true
    covered e c = sym (covers-joined (version_of xs) (version_of ys) e.0) ∙ ap (λ v. covers v e.0) (sym (version_of-append xs ys)) ∙ c

-- a cut of a lawful history is lawful
pub cut_lawful : (history ops : History Body) → IsLawful history → IsCut history ops → IsLawful ops
cut_lawful history ops l p = record {
  sites = λ e h. l.sites e (p.within e h);
  distinct = λ e f h k. l.distinct e f (p.within e h) (p.within f k);
  grounded = p.grounded;
  one_begin = λ job s t a b h k. l.one_begin job s t a b (p.within _ h) (p.within _ k);
  one_finish = λ job s t a b h k. l.one_finish job s t a b (p.within _ h) (p.within _ k);
  one_grant = λ job s t a b term h k. l.one_grant job s t a b term (p.within _ h) (p.within _ k);
  one_return = λ job s t term h k. l.one_return job s t term (p.within _ h) (p.within _ k);
  begun_held = λ job s a h. holder job s (p.held job s a h);
}
  where
    holder : (job s : StampValue) → IsHeld history ops job s.site → IsHolder ops job s.site
    holder job s h = record {
      stamp = h.stamp;
      term = h.term;
      granted = h.granted;
      greatest = λ t other k g. same_term history l job h.stamp t s.site other h.term k (p.within _ h.granted) (p.within _ g) h.kept;
      kept = λ t k. h.kept t (p.within _ k);
    }

-- two cuts of one lawful history are kin
pub cuts_kin : (history xs ys : History Body) → IsLawful history → IsCut history xs → IsCut history ys → AreKin xs ys
cuts_kin history xs ys l p q = record {
  left = cut_lawful history xs l p;
  right = cut_lawful history ys l q;
  both = cut_lawful history (xs ++ ys) l (cut_union history xs ys p q);
  left_shares = λ e h c. q.whole e (p.within e h) c;
  right_shares = λ e h c. p.whole e (q.within e h) c;
}
