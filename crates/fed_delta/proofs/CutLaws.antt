-- A cut of what a kin set tells, taken in by a board that has seen all that the cut needs, and a cut that tells all.
use Rattle.std.specs.Prelude.{if◌then◌else◌, nat_lt, ◌&&◌}
use Rattle.std.proofs.Common.{◌≡◌, ℕ, zero, suc, List, [], ◌∷◌, ◌++◌, Bool, true, false, replicate, None, refl, sym, ap, ◌∙◌, inl, inr, arith}
use Rattle.std.proofs.lemmas.Bool.{cases_Bool, cond-true, not-false, lt-ltb, ltb-false}
use Rattle.fed_stamp.specs.Stamp.{StampValue}
use Rattle.fed_stamp.specs.Version.{counter_of, is_below}
use Rattle.fed_lattice.specs.History.{History}
use Rattle.fed_lattice.specs.VersionOf.{version_of}
use Rattle.fed_model.specs.Body.{Body}
use Rattle.fed_model.specs.JobView.{unknown}
use Rattle.fed_model.specs.Lawful.{AreKin}
use Rattle.fed_model.specs.Reservation.{ReservationView}
use Rattle.fed_model.specs.View.{View, view}
use Rattle.fed_theory.specs.Cut.{is_changed_job, is_changed_reservation, is_changed_site, beyond, cut}
use Rattle.fed_theory.specs.ViewSteps.{join_records}
use Rattle.fed_theory.proofs.CutLaws.{covered, cut_joins}
use Rattle.fed_theory.proofs.KnownLaws.{untouched_job, covered_reservation, known_retired}

pub stands_absorbed : (ops others : History Body) → AreKin ops others → (need : List ℕ) → is_below need (version_of ops) ≡ true
    → (v w u : View) → u ≡ join_records v w → v ≡ view ops → w ≡ cut (view others) need → u ≡ view (ops ++ others)
stands_absorbed ops others kin need below v w u joined left right =
    joined ∙ ap (λ x. join_records x w) left ∙ ap (join_records (view ops)) right ∙ cut_joins ops others kin need below

-- ---- one who has seen nothing is told all
same_both : {A : Type 0} (b : Bool) (x : A) → (if b then x else x) ≡ x
same_both true x = refl
same_both false x = refl

above_zeros : (n : ℕ) (rs : List ℕ) → beyond (replicate n 0) rs ≡ rs
above_zeros n [] = all n
  where
    all : (n : ℕ) → beyond (replicate n 0) [] ≡ []
    all zero = refl
    all (suc n) = refl
above_zeros zero (r ∷ rs) = refl
above_zeros (suc n) (r ∷ rs) = (λ i. some r i ∷ above_zeros n rs i)
  where
    some : (k : ℕ) → (if nat_lt 0 k then k else 0) ≡ k
    some zero = refl
    some (suc k) = cond-true (nat_lt 0 (suc k)) (suc k) 0 (lt-ltb 0 (suc k) (omega arith))

module _ (ops : History Body) (kin : AreKin [] ops) where
  whole_job : (id : StampValue) (c : Bool) → is_changed_job (replicate 16 0) ((view ops).job id) ≡ c → (if c then (view ops).job id else unknown) ≡ (view ops).job id
  whole_job id true e = refl
  whole_job id false e = sym (untouched_job [] ops kin id (not-false (is_below ((view ops).job id).touched (replicate 16 0)) e) ∙ same_both ((view ops).retired id) unknown)

  whole_reservation : (id : StampValue) (c : Bool) → is_changed_reservation (replicate 16 0) ((view ops).reservation id) ≡ c → ◌≡◌ {A = ReservationView} (if c then (view ops).reservation id else None) ((view ops).reservation id)
  whole_reservation id true e = refl
  whole_reservation id false e = sym (covered_reservation [] ops kin id (covered (replicate 16 0) ((view ops).reservation id) e) ∙ same_both ((view ops).retired id) None)

  whole_retired : (id : StampValue) (c : Bool) → is_changed_site (replicate 16 0) (view ops).retirements id.site ≡ c → (c && (view ops).retired id) ≡ (view ops).retired id
  whole_retired id true e = refl
  whole_retired id false e = elim (cases_Bool ((view ops).retired id)) [
    | inr kept ↦ sym kept
    | inl gone ↦ absurd (let known = known_retired [] ops kin id (ltb-false (counter_of (replicate 16 0) id.site) (counter_of (view ops).retirements id.site) e) gone in cc)
  ]

  pub cut_whole : cut (view ops) (replicate 16 0) ≡ view ops
  unfolding cut
  cut_whole = λ i. record {
    version = version_of ops;
    retirements = above_zeros 16 (view ops).retirements i;
    retired = λ id. whole_retired id (is_changed_site (replicate 16 0) (view ops).retirements id.site) refl i;
    job = λ id. whole_job id (is_changed_job (replicate 16 0) ((view ops).job id)) refl i;
    reservation = λ id. whole_reservation id (is_changed_reservation (replicate 16 0) ((view ops).reservation id)) refl i;
  }
