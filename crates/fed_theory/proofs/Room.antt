-- No answer takes a site beyond its limits.
use Rattle.std.proofs.Common.{◌≡◌, ◌≤◌, ◌<◌, [], ◌∷◌, ◌++◌, false, refl, sym, subst, arith}
use Rattle.fed_stamp.specs.Stamp.{StampValue}
use Rattle.fed_lattice.specs.History.{History}
use Rattle.fed_model.specs.declared.capacities.TheConstants.{MAX_JOBS, MAX_RANGES, MAX_RESERVATIONS}
use Rattle.fed_model.specs.Body.{Body, Body.Submit, Body.Reserve, Body.Retire}
use Rattle.fed_model.specs.Retired.{retires}
use Rattle.fed_model.specs.View.{view}
use Rattle.fed_model.specs.Lawful.{IsLawful}
use Rattle.fed_model.specs.Origin.{jobs_of, ranges_of, ranges_with, reservations_of}
use Rattle.fed_theory.proofs.Allowed.{IsWithin}
use Rattle.fed_theory.proofs.OriginCounts.{MakesJob, jobs_one_more, jobs_kept, ranges_kept, ranges_added, MakesReservation, reservations_added, reservations_kept}

module _ (ops : History Body) (new : StampValue × Body) (l : IsLawful ops) (m : IsLawful (ops ++ new ∷ [])) (within : IsWithin ops new.0 new.1) where
  pub jobs_room : jobs_of (view ops) new.0.site ≤ MAX_JOBS → jobs_of (view (ops ++ new ∷ [])) new.0.site ≤ MAX_JOBS
  jobs_room old = go new.1 refl
    where
      go : (body : Body) → new.1 ≡ body → jobs_of (view (ops ++ new ∷ [])) new.0.site ≤ MAX_JOBS
      go (Submit owner values held) e =
          let room : jobs_of (view ops) new.0.site < MAX_JOBS = subst (IsWithin ops new.0) e within in
          let more = jobs_one_more ops new l new.0.site in omega arith
      go body e = let same = jobs_kept ops new l (λ k. subst MakesJob e k) new.0.site in omega arith

  pub ranges_room : ranges_of (view ops) new.0.site ≤ MAX_RANGES → ranges_of (view (ops ++ new ∷ [])) new.0.site ≤ MAX_RANGES
  ranges_room old = go new.1 refl
    where
      go : (body : Body) → new.1 ≡ body → ranges_of (view (ops ++ new ∷ [])) new.0.site ≤ MAX_RANGES
      go (Retire first last) e =
          let w : IsWithin ops new.0 (Retire first last) = subst (IsWithin ops new.0) e within in
          let room = w.0 in
          let added : ranges_of (view (ops ++ new ∷ [])) new.0.site ≤ ranges_with (view ops) new.0.site first last =
          subst (λ b. ranges_of (view (ops ++ (new.0, b) ∷ [])) new.0.site ≤ ranges_with (view ops) new.0.site first last) (sym e) (ranges_added ops l new.0 first last w.1) in
          omega arith
      go body e = let same = ranges_kept ops new l (λ job. subst (λ b. retires job (new.0, b) ≡ false) (sym e) refl) new.0.site in omega arith

  pub reservations_room : reservations_of (view ops) new.0.site ≤ MAX_RESERVATIONS → reservations_of (view (ops ++ new ∷ [])) new.0.site ≤ MAX_RESERVATIONS
  reservations_room old = go new.1 refl
    where
      go : (body : Body) → new.1 ≡ body → reservations_of (view (ops ++ new ∷ [])) new.0.site ≤ MAX_RESERVATIONS
      go (Reserve window) e =
          let room : reservations_of (view ops) new.0.site < MAX_RESERVATIONS = (subst (IsWithin ops new.0) e within).1 in
          let more = reservations_added ops new l m new.0.site in omega arith
      go body e = let same = reservations_kept ops new l m (λ k. subst MakesReservation e k) new.0.site in omega arith
