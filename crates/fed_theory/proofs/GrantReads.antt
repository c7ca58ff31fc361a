-- What the stage of a job's grants tells of the operations that it is read of.
use Rattle.std.specs.Prelude.{nat_lt}
use Rattle.std.specs.Ordering.{ordering_then, nat_cmp, is_gt}
use Rattle.std.specs.Cmp.{nat_cmp_total}
use Rattle.std.proofs.Common.{◌≡◌, ℕ, ◌≤◌, ◌==◌, true, false, Option, Some, None, Ordering, Equal, refl, ap, subst, ◌∙◌, inl, inr, arith}
use Rattle.std.proofs.lemmas.Bool.{cases_lt, le-ltb, ne_eqb, eqb-true}
use Rattle.std.proofs.lemmas.Cmp.{tied_itself}
use Rattle.fed_stamp.specs.Stamp.{StampValue}
use Rattle.fed_lattice.specs.Sets.{Has}
use Rattle.fed_lattice.specs.History.{History}
use Rattle.fed_lattice.specs.Order.{IsUpTo}
use Rattle.fed_lattice.proofs.FilterLaws.{Has-filter, filter-Has}
use Rattle.fed_model.specs.declared.grants.GrantStage.{GrantStage}
use Rattle.fed_model.specs.declared.grants.GrantStage.TheVariants.{Open, Returned}
use Rattle.fed_model.specs.Body.{Body, Body.OfJob, JobBody.Grant, JobBody.HandBack, is_of_job, of_job}
use Rattle.fed_model.specs.Grant.{term_of, grant_cmp, grant_in}
use Rattle.fed_theory.proofs.FoundLaws.{grant_found, grant_greatest, grant_none}
use Rattle.fed_lattice.specs.ExactLaws.{same_stamp_is, same_stamp_itself}
use Rattle.fed_model.specs.JobView.{job_view}
use Rattle.fed_model.specs.Lawful.{IsHolder}
use Rattle.fed_model.specs.Letter.{is_granted_to}

-- ---- the order of stages
upto_first : (a b : ℕ) (o : Ordering) → is_gt (ordering_then (nat_cmp a b) o) ≡ false → a ≤ b
upto_first a b o e = elim (cases_lt b a) [
  | inl l ↦ absurd (
      let p : nat_lt a b ≡ false = le-ltb a b (omega arith) in
      let q : (a == b) ≡ false = ne_eqb a b (λ s. omega arith) in
      let r = rw (p, q) at e in cc)
  | inr l ↦ l
]

upto_term : (g h : GrantStage) → IsUpTo grant_cmp g h → term_of g ≤ term_of h
upto_term g h e = upto_first (term_of g) (term_of h) _ e

returned_above : (term : ℕ) (s t : StampValue) (site : ℕ) → IsUpTo grant_cmp (Returned term s) (Open term t site) → ⊥
returned_above term s t site e = let p : nat_cmp term term ≡ Equal = tied_itself nat_cmp_total term in let r = rw p at e in cc

module _ (ops : History Body) (job : StampValue) where
  -- ---- from the operations to the stage
  grant_of : (s : StampValue) (site term : ℕ) → Has ops (s, OfJob job (Grant site term)) → Has (of_job job ops) (s, OfJob job (Grant site term))
  grant_of s site term h = filter-Has (is_of_job job) ops (s, OfJob job (Grant site term)) h (same_stamp_itself job)

  return_of : (s : StampValue) (term : ℕ) → Has ops (s, OfJob job (HandBack term)) → Has (of_job job ops) (s, OfJob job (HandBack term))
  return_of s term h = filter-Has (is_of_job job) ops (s, OfJob job (HandBack term)) h (same_stamp_itself job)

  -- no grant has a greater term than the stage
  pub grants_below : (g : GrantStage) → (job_view (of_job job ops)).stages.grant ≡ Some g → (s : StampValue) (site term : ℕ) → Has ops (s, OfJob job (Grant site term)) → term ≤ term_of g
  grants_below g is s site term h =
      upto_term (Open term s site) g (grant_greatest (of_job job ops) g is (s, OfJob job (Grant site term)) (Open term s site) (grant_of s site term h) refl)

  pub no_grants : (job_view (of_job job ops)).stages.grant ≡ None → (s : StampValue) (site term : ℕ) → Has ops (s, OfJob job (Grant site term)) → ⊥
  no_grants is s site term h = let n = grant_none (of_job job ops) is (s, OfJob job (Grant site term)) (grant_of s site term h) in cc

  -- the term of an open stage is not handed back
  pub open_kept : (term : ℕ) (t : StampValue) (site : ℕ) → (job_view (of_job job ops)).stages.grant ≡ Some (Open term t site) → (s : StampValue) → Has ops (s, OfJob job (HandBack term)) → ⊥
  open_kept term t site is s h =
      returned_above term s t site (grant_greatest (of_job job ops) (Open term t site) is (s, OfJob job (HandBack term)) (Returned term s) (return_of s term h) refl)

  -- ---- from the stage to the operations
  open_body : (e : StampValue × Body) (term : ℕ) (s : StampValue) (site : ℕ) → grant_in e ≡ Some (Open term s site) → is_of_job job e ≡ true → e ≡ (s, OfJob job (Grant site term))
  open_body (t, OfJob named (Grant other k)) term s site e of =
      let p : named ≡ job = same_stamp_is named job of in
      let q : t ≡ s = cc in let r : k ≡ term = cc in let o : other ≡ site = cc in
      (λ i. (q i, OfJob (p i) (Grant (o i) (r i))))
  open_body (t, _) term s site e of = cc

  returned_body : (e : StampValue × Body) (term : ℕ) (s : StampValue) → grant_in e ≡ Some (Returned term s) → is_of_job job e ≡ true → e ≡ (s, OfJob job (HandBack term))
  returned_body (t, OfJob named (HandBack k)) term s e of =
      let p : named ≡ job = same_stamp_is named job of in
      let q : t ≡ s = cc in let r : k ≡ term = cc in
      (λ i. (q i, OfJob (p i) (HandBack (r i))))
  returned_body (t, _) term s e of = cc

  pub open_granted : (term : ℕ) (s : StampValue) (site : ℕ) → (job_view (of_job job ops)).stages.grant ≡ Some (Open term s site) → Has ops (s, OfJob job (Grant site term))
  open_granted term s site is =
      let f = grant_found (of_job job ops) (Open term s site) is in
      let m = Has-filter (is_of_job job) ops f.0 f.1 in
      subst (Has ops) (open_body f.0 term s site f.2 m.1) m.0

  pub returned_made : (term : ℕ) (s : StampValue) → (job_view (of_job job ops)).stages.grant ≡ Some (Returned term s) → Has ops (s, OfJob job (HandBack term))
  returned_made term s is =
      let f = grant_found (of_job job ops) (Returned term s) is in
      let m = Has-filter (is_of_job job) ops f.0 f.1 in
      subst (Has ops) (returned_body f.0 term s f.2 m.1) m.0

  -- ---- a job that is granted to the site
  opened : (site : ℕ) (o : Option GrantStage) → (job_view (of_job job ops)).stages.grant ≡ o → is_granted_to (job_view (of_job job ops)) site ≡ true → (term : ℕ) × (s : StampValue) × ((job_view (of_job job ops)).stages.grant ≡ Some (Open term s site))
  opened site None is e = let r = rw is at e in cc
  opened site (Some (Open term s holder)) is e =
      let r : (holder == site) ≡ true = rw is at e in
      (term, s, is ∙ ap (λ h. Some (Open term s h)) (eqb-true holder site r))
  opened site (Some (Returned term s)) is e = let r = rw is at e in cc

  pub granted_open : (site : ℕ) → is_granted_to (job_view (of_job job ops)) site ≡ true → (term : ℕ) × (s : StampValue) × ((job_view (of_job job ops)).stages.grant ≡ Some (Open term s site))
  granted_open site e = opened site (job_view (of_job job ops)).stages.grant refl e

  -- it holds the grant
  pub open_holder : (site term : ℕ) (s : StampValue) → (job_view (of_job job ops)).stages.grant ≡ Some (Open term s site) → IsHolder ops job site
  open_holder site term s is = record {
    stamp = s;
    term = term;
    granted = open_granted term s site is;
    greatest = λ t other k h. grants_below (Open term s site) is t other k h;
    kept = λ t h. open_kept term s site is t h;
  }
