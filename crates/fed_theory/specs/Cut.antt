-- What one site need tell another that has seen a version, of what a set of operations says.
use Rattle.std.specs.Prelude.{ℕ, Bool, false, not, ◌&&◌, nat_lt, List, [], ◌∷◌, Some, None, if◌then◌else◌}
use Rattle.fed_stamp.specs.Version.{counter_of, covers, is_below}
use Rattle.fed_model.specs.JobView.{JobView, unknown}
use Rattle.fed_model.specs.Reservation.{ReservationView}
use Rattle.fed_model.specs.View.{View}

-- the job was touched beyond the version
abbrev pub is_changed_job : List ℕ → JobView → Bool
is_changed_job need j = not (is_below j.touched need)

-- the version does not cover the reservation's greatest stamp
abbrev pub is_changed_reservation : List ℕ → ReservationView → Bool
is_changed_reservation need None = false
is_changed_reservation need (Some latest) = not (covers need latest.0)

-- the site's latest Retire is beyond the version
abbrev pub is_changed_site : List ℕ → List ℕ → ℕ → Bool
is_changed_site need retirements site = nat_lt (counter_of need site) (counter_of retirements site)

-- the counters that are beyond those of the version, and 0 for each other
abbrev pub beyond : List ℕ → List ℕ → List ℕ
beyond need [] = []
beyond [] (r ∷ retirements) = r ∷ retirements
beyond (n ∷ need) (r ∷ retirements) = (if nat_lt n r then r else 0) ∷ beyond need retirements

-- the jobs that were touched beyond the version, the reservations whose greatest stamp it does not cover, and the
-- retired jobs of each site whose latest Retire it does not cover; of all others nothing is told
unfoldable pub cut : View → List ℕ → View
cut v need = record {
  version = v.version;
  retirements = beyond need v.retirements;
  retired = λ job. is_changed_site need v.retirements job.site && v.retired job;
  job = λ job. if is_changed_job need (v.job job) then v.job job else unknown;
  reservation = λ id. if is_changed_reservation need (v.reservation id) then v.reservation id else None;
}
