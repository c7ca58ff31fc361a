-- What a set of operations says as a whole.
use Rattle.std.specs.Prelude.{ℕ, Bool, List, None, if◌then◌else◌}
use Rattle.fed_stamp.specs.Stamp.{StampValue}
use Rattle.fed_lattice.specs.Sets.{Has}
use Rattle.fed_lattice.specs.History.{History}
use Rattle.fed_lattice.specs.VersionOf.{version_of}
use Rattle.fed_model.specs.declared.values.JobValues.{JobValues}
use Rattle.fed_model.specs.declared.windows.Window.{Window}
use Rattle.fed_model.specs.Body.{Body, Body.Submit, Body.Reserve, of_job, of_reservation}
use Rattle.fed_model.specs.JobView.{JobView, job_view, unknown}
use Rattle.fed_model.specs.Retired.{is_retired, retires_in}
use Rattle.fed_model.specs.Reservation.{ReservationView, reservation_view}

-- all that can be read of a set: its version, the version of its Retires, whether an identifier is retired, each job by
-- the stamp of its Submit, and each reservation by the stamp of its Reserve. A job or a reservation that is retired reads
-- as one of which nothing is known. A board stands for the set where it reads as this
pub record View : Type 0 where
  pub version : List ℕ
  pub retirements : List ℕ
  pub retired : StampValue → Bool
  pub job : StampValue → JobView
  pub reservation : StampValue → ReservationView

abbrev pub view : History Body → View
view ops = record {
  version = version_of ops;
  retirements = version_of (retires_in ops);
  retired = is_retired ops;
  job = λ job. if is_retired ops job then unknown else job_view (of_job job ops);
  reservation = λ id. if is_retired ops id then None else reservation_view (of_reservation id ops);
}

-- the set has the Submit of the job
abbrev pub HasSubmit : History Body → StampValue → Type 0
HasSubmit ops job = (owner : List ℕ) × (values : JobValues) × (held : Bool) × Has ops (job, Submit owner values held)

-- the set has the Reserve of the reservation
abbrev pub HasReserve : History Body → StampValue → Type 0
HasReserve ops id = (window : Window) × Has ops (id, Reserve window)
