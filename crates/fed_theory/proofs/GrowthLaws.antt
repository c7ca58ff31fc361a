-- Lawful sets grow.
use Rattle.std.proofs.Common.{◌≡◌, ℕ, zero, suc, ◌≤◌, ◌<◌, [], ◌∷◌, ◌++◌, refl, sym, ap, subst, ◌∙◌, inl, inr, arith}
use Rattle.std.proofs.lemmas.Bool.{cases_eq}
use Rattle.fed_stamp.specs.Stamp.{StampValue}
use Rattle.fed_lattice.specs.Sets.{Has}
use Rattle.fed_lattice.specs.SetLaws.{Has-left, Has-push}
use Rattle.fed_lattice.specs.History.{History, IsFresh}
use Rattle.fed_model.specs.declared.beginnings.Beginning.{Beginning}
use Rattle.fed_model.specs.Body.{Body, Body.OfJob, JobBody.Grant, JobBody.HandBack, JobBody.Begin, JobBody.Finish}
use Rattle.fed_model.specs.Lawful.{IsNextTerm, IsGrounded, IsHolder, IsLawful}
use Rattle.fed_theory.specs.MayFollow.{MayFollow}
use Rattle.fed_theory.proofs.LawfulLaws.{grounded_more}
use Rattle.fed_theory.proofs.ViewLaws.{one_each_push}

-- the term of a grant in a lawful set is 1 or more
pub term_positive : (ops : History Body) (l : IsLawful ops) (job s : StampValue) (site term : ℕ) → Has ops (s, OfJob job (Grant site term)) → 1 ≤ term
term_positive ops l job s site term h = positive term (l.grounded (s, OfJob job (Grant site term)) h).1
  where
    positive : (n : ℕ) → IsNextTerm ops s job n → 1 ≤ n
    positive zero n = absurd n
    positive (suc k) n = omega arith

module _ (ops : History Body) (e : StampValue × Body) (l : IsLawful ops) (fresh : IsFresh e.0 ops) (rests : IsGrounded (ops ++ e ∷ []) e.0 e.1) (may : MayFollow ops e.0 e.1) where
  new_may : (f : StampValue × Body) → e ≡ f → MayFollow ops f.0 f.1
  new_may f q = subst (λ (x : StampValue × Body). MayFollow ops x.0 x.1) q may

  -- of two operations of which the set may have one, where it may follow none
  once : (f g : StampValue × Body) → Has (ops ++ e ∷ []) f → Has (ops ++ e ∷ []) g → (Has ops f → Has ops g → f.0 ≡ g.0) → (MayFollow ops f.0 f.1 → Has ops g → ⊥) → (MayFollow ops g.0 g.1 → Has ops f → ⊥) → f.0 ≡ g.0
  once f g h k old new_f new_g = elim (Has-push ops e f h) [
    | inl p ↦ elim (Has-push ops e g k) [ inl q ↦ old p q | inr q ↦ absurd (new_g (new_may g q) p) ]
    | inr p ↦ elim (Has-push ops e g k) [ inl q ↦ absurd (new_f (new_may f p) q) | inr q ↦ ap (λ (x : StampValue × Body). x.0) (sym p ∙ q) ]
  ]

  -- a later term's grant follows a return, and a job that has begun has no return of the greatest term
  next_below : (job t : StampValue) (other k term : ℕ) → e ≡ (t, OfJob job (Grant other k)) → 1 ≤ term → ((s : StampValue) (site n : ℕ) → Has ops (s, OfJob job (Grant site n)) → n ≤ term) → ((s : StampValue) → Has ops (s, OfJob job (HandBack term)) → ⊥)
      → (n : ℕ) → k ≡ n → IsNextTerm (ops ++ e ∷ []) t job n → n ≤ term
  next_below job t other k term q positive greatest kept zero same next = absurd next
  next_below job t other k term q positive greatest kept (suc zero) same next = positive
  next_below job t other k term q positive greatest kept (suc (suc m)) same next = elim (Has-push ops e (next.0, OfJob job (HandBack (suc m))) next.1.0) [
    | inl p ↦ (
        let g = (l.grounded (next.0, OfJob job (HandBack (suc m))) p).1 in
        let below : suc m ≤ term = greatest g.0 next.0.site (suc m) g.1.0 in
        elim (cases_eq (suc m) term) [
          | inl is ↦ absurd (kept next.0 (subst (λ (n : ℕ). Has ops (next.0, OfJob job (HandBack n))) is p))
          | inr differ ↦ omega arith
        ])
    | inr p ↦ (let b : ◌≡◌ {A = Body} (OfJob job (Grant other k)) (OfJob job (HandBack (suc m))) = ap (λ (x : StampValue × Body). x.1) (sym q ∙ p) in cc)
  ]

  still_held : (job s : StampValue) (a : Beginning) → Has ops (s, OfJob job (Begin a)) → IsHolder ops job s.site → IsHolder (ops ++ e ∷ []) job s.site
  still_held job s a begun holder = record {
    stamp = holder.stamp;
    term = holder.term;
    granted = Has-left ops (e ∷ []) _ holder.granted;
    greatest = λ t other k g. elim (Has-push ops e (t, OfJob job (Grant other k)) g) [
      | inl q ↦ holder.greatest t other k q
      | inr q ↦ (
          let r = subst (λ (x : StampValue × Body). IsGrounded (ops ++ e ∷ []) x.0 x.1) q rests in
          next_below job t other k holder.term q (term_positive ops l job holder.stamp s.site holder.term holder.granted) holder.greatest holder.kept k refl r.1)
    ];
    kept = λ t g. elim (Has-push ops e (t, OfJob job (HandBack holder.term)) g) [
      | inl q ↦ holder.kept t q
      | inr q ↦ (new_may (t, OfJob job (HandBack holder.term)) q).1 s a begun
    ];
  }

  newly_held : (job s : StampValue) (a : Beginning) → e ≡ (s, OfJob job (Begin a)) → IsHolder ops job s.site → IsHolder (ops ++ e ∷ []) job s.site
  newly_held job s a p holder = record {
    stamp = holder.stamp;
    term = holder.term;
    granted = Has-left ops (e ∷ []) _ holder.granted;
    greatest = λ t other k g. elim (Has-push ops e (t, OfJob job (Grant other k)) g) [
      | inl q ↦ holder.greatest t other k q
      | inr q ↦ (let b : ◌≡◌ {A = Body} (OfJob job (Begin a)) (OfJob job (Grant other k)) = ap (λ (x : StampValue × Body). x.1) (sym p ∙ q) in cc)
    ];
    kept = λ t g. elim (Has-push ops e (t, OfJob job (HandBack holder.term)) g) [
      | inl q ↦ holder.kept t q
      | inr q ↦ (let b : ◌≡◌ {A = Body} (OfJob job (Begin a)) (OfJob job (HandBack holder.term)) = ap (λ (x : StampValue × Body). x.1) (sym p ∙ q) in cc)
    ];
  }

  -- a lawful set stays lawful by an operation that rests on it and may follow it
  pub lawful_push : e.0.site < 16 → IsLawful (ops ++ e ∷ [])
  lawful_push small = record {
    sites = λ f h. elim (Has-push ops e f h) [ inl k ↦ l.sites f k | inr q ↦ subst (λ (x : StampValue × Body). x.0.site < 16) q small ];
    distinct = one_each_push ops e l.distinct fresh;
    grounded = λ f h. elim (Has-push ops e f h) [
      | inl k ↦ grounded_more ops (ops ++ e ∷ []) (Has-left ops (e ∷ [])) f.0 f.1 (l.grounded f k)
      | inr q ↦ subst (λ (x : StampValue × Body). IsGrounded (ops ++ e ∷ []) x.0 x.1) q rests
    ];
    one_begin = λ job s t a b h k. once (s, OfJob job (Begin a)) (t, OfJob job (Begin b)) h k (l.one_begin job s t a b) (λ m q. m.0 t b q) (λ m p. m.0 s a p);
    one_finish = λ job s t a b h k. once (s, OfJob job (Finish a)) (t, OfJob job (Finish b)) h k (l.one_finish job s t a b) (λ m q. m t b q) (λ m p. m s a p);
    one_grant = λ job s t a b term h k. once (s, OfJob job (Grant a term)) (t, OfJob job (Grant b term)) h k (l.one_grant job s t a b term) (λ m q. m t b q) (λ m p. m s a p);
    one_return = λ job s t term h k. once (s, OfJob job (HandBack term)) (t, OfJob job (HandBack term)) h k (l.one_return job s t term) (λ m q. m.0 t q) (λ m p. m.0 s p);
    begun_held = λ job s a h. elim (Has-push ops e (s, OfJob job (Begin a)) h) [
      | inl p ↦ still_held job s a p (l.begun_held job s a p)
      | inr p ↦ newly_held job s a p (new_may (s, OfJob job (Begin a)) p).1
    ];
  }
