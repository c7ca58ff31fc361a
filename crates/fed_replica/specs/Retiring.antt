-- What keeps a range of a site's identifiers from being retired, entry by entry.
use Rattle.std.specs.Prelude.{ℕ, Bool, not, ◌&&◌, ◌==◌}
use Rattle.fed_stamp.specs.Stamp.{StampValue}
use Rattle.fed_record.specs.JobRecord.{JobRecordValue, job_reads}
use Rattle.fed_model.specs.Refusals.{is_settled, is_standing}
use Rattle.fed_model.specs.Reservation.{ReservationView}
use Rattle.fed_model.specs.Retired.{is_within}

-- the identifier is one of the site's in the range
abbrev pub is_named : ℕ → ℕ → ℕ → StampValue → Bool
is_named here first last id = (id.site == here) && is_within first last id.counter

-- a job of the site in the range is not settled
abbrev pub is_open_job : ℕ → ℕ → ℕ → StampValue × JobRecordValue → Bool
is_open_job here first last e = is_named here first last e.0 && not (is_settled here (job_reads e.1))

-- a reservation of the site in the range stands
abbrev pub is_open_reservation : ℕ → ℕ → ℕ → StampValue × ReservationView → Bool
is_open_reservation here first last e = is_named here first last e.0 && is_standing e.1
