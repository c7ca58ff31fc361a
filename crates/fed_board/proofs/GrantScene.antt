-- A job that is granted, handed back and granted anew, or granted and begun: the sets of these operations are
-- lawful.
use Rattle.std.proofs.Common.{◌≡◌, ℕ, ◌<◌, ◌≤◌, refl, ap, ◌∙◌, inl, inr, arith}
use Rattle.fed_stamp.specs.Stamp.{StampValue}
use Rattle.fed_lattice.specs.Sets.{Has}
use Rattle.fed_lattice.specs.History.{IsFresh}
use Rattle.fed_model.specs.declared.beginnings.Beginning.{Beginning}
use Rattle.fed_model.specs.Body.{Body, Body.OfJob, JobBody.Grant, JobBody.HandBack, JobBody.Begin}
use Rattle.fed_model.specs.Lawful.{IsHolder, IsLawful}
use Rattle.fed_theory.proofs.GrowthLaws.{lawful_push}
use Rattle.fed_theory.proofs.Scenes.{at, job}
use Rattle.fed_board.proofs.KinScene.{exchange_kin}
use Rattle.fed_board.proofs.Scenes.{here, granted, returned, granted_anew, begun}

abbrev body_of : StampValue × Body → Body
body_of e = e.1

here_lawful : IsLawful here
here_lawful = exchange_kin.left

-- ---- the grant
granted_lawful : IsLawful granted
granted_lawful = lawful_push here (at 2 0, OfJob job (Grant 1 1)) here_lawful fresh ((_, _, _, (inl refl, refl)), tt) first (omega arith)
  where
    fresh : IsFresh (at 2 0) here
    fresh f (inl p) same = let n : ◌≡◌ {A = ℕ} 1 2 = ap (λ (x : StampValue × Body). x.0.counter) p ∙ ap (λ (t : StampValue). t.counter) same in absurd (omega arith)
    fresh f (inr k) same = absurd k

    first : (s : StampValue) (other : ℕ) → Has here (s, OfJob job (Grant other 1)) → ⊥
    first s other (inl p) = let b = ap body_of p in cc
    first s other (inr k) = k

no_return : (s : StampValue) (term : ℕ) → Has granted (s, OfJob job (HandBack term)) → ⊥
no_return s term (inl p) = let b = ap body_of p in cc
no_return s term (inr (inl p)) = let b = ap body_of p in cc
no_return s term (inr (inr k)) = k

no_begin : (s : StampValue) (a : Beginning) → Has granted (s, OfJob job (Begin a)) → ⊥
no_begin s a (inl p) = let b = ap body_of p in cc
no_begin s a (inr (inl p)) = let b = ap body_of p in cc
no_begin s a (inr (inr k)) = k

granted_fresh : (t : StampValue) → 2 < t.counter → IsFresh t granted
granted_fresh t above f (inl p) same = let n : ◌≡◌ {A = ℕ} 1 t.counter = ap (λ (x : StampValue × Body). x.0.counter) p ∙ ap (λ (s : StampValue). s.counter) same in absurd (omega arith)
granted_fresh t above f (inr (inl p)) same = let n : ◌≡◌ {A = ℕ} 2 t.counter = ap (λ (x : StampValue × Body). x.0.counter) p ∙ ap (λ (s : StampValue). s.counter) same in absurd (omega arith)
granted_fresh t above f (inr (inr k)) same = absurd k

-- ---- handed back, and granted anew
returned_lawful : IsLawful returned
returned_lawful = lawful_push granted (at 3 1, OfJob job (HandBack 1)) granted_lawful (granted_fresh (at 3 1) (omega arith))
    ((_, _, _, (inl refl, refl)), (at 2 0, (inr (inl refl), refl))) ((λ s h. no_return s 1 h), no_begin) (omega arith)

anew_lawful : IsLawful granted_anew
anew_lawful = lawful_push returned (at 4 0, OfJob job (Grant 0 2)) returned_lawful fresh ((_, _, _, (inl refl, refl)), (at 3 1, (inr (inr (inl refl)), refl))) second (omega arith)
  where
    fresh : IsFresh (at 4 0) returned
    fresh f (inl p) same = granted_fresh (at 4 0) (omega arith) f (inl p) same
    fresh f (inr (inl p)) same = granted_fresh (at 4 0) (omega arith) f (inr (inl p)) same
    fresh f (inr (inr (inl p))) same = let n : ◌≡◌ {A = ℕ} 3 4 = ap (λ (x : StampValue × Body). x.0.counter) p ∙ ap (λ (s : StampValue). s.counter) same in absurd (omega arith)
    fresh f (inr (inr (inr k))) same = absurd k

    second : (s : StampValue) (other : ℕ) → Has returned (s, OfJob job (Grant other 2)) → ⊥
    second s other (inl p) = let b = ap body_of p in cc
    second s other (inr (inl p)) = let b = ap body_of p in cc
    second s other (inr (inr (inl p))) = let b = ap body_of p in cc
    second s other (inr (inr (inr k))) = k

-- ---- begun by the site granted
holds_grant : IsHolder granted job 1
holds_grant = record { stamp = at 2 0; term = 1; granted = inr (inl refl); greatest = greatest; kept = λ s h. no_return s 1 h }
  where
    greatest : (s : StampValue) (other k : ℕ) → Has granted (s, OfJob job (Grant other k)) → k ≤ 1
    greatest s other k (inl p) = let b = ap body_of p in cc
    greatest s other k (inr (inl p)) = let b : ◌≡◌ {A = Body} (OfJob job (Grant 1 1)) (OfJob job (Grant other k)) = ap body_of p in let n : 1 ≡ k = cc in omega arith
    greatest s other k (inr (inr h)) = absurd h

begun_lawful : IsLawful begun
begun_lawful = lawful_push granted (at 3 1, OfJob job (Begin _)) granted_lawful (granted_fresh (at 3 1) (omega arith))
    ((_, _, _, (inl refl, refl)), tt) (no_begin, holds_grant) (omega arith)
