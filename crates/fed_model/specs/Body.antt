-- Operations: what a site does, each time under a stamp of its own. A set of operations is a history of their
-- bodies.
use Rattle.std.specs.Prelude.{ℕ, Bool, false, List, filter, Option, Some, None}
use Rattle.fed_stamp.specs.Stamp.{StampValue, same_stamp}
use Rattle.fed_lattice.specs.History.{History}
use Rattle.fed_model.specs.declared.holds.HoldKind.{HoldKind}
use Rattle.fed_model.specs.declared.holds.HoldKinds.{HoldKinds}
use Rattle.fed_model.specs.declared.values.JobValues.{JobValues}
use Rattle.fed_model.specs.declared.values.Changes.{Changes}
use Rattle.fed_model.specs.declared.beginnings.Beginning.{Beginning}
use Rattle.fed_model.specs.declared.beginnings.Ending.{Ending}
use Rattle.fed_model.specs.declared.windows.Window.{Window}

-- What an operation does to a job that was submitted. `removed` tests pairs of an element and the stamp of the
-- operation that added it
pub data JobBody : Type 0 where
  Set : (changes : Changes) (removed : ℕ → StampValue → Bool) → JobBody
  Hold : (kinds : HoldKinds) → JobBody
  Release : (removed : HoldKind → StampValue → Bool) → JobBody
  Delete : JobBody
  Grant : (site : ℕ) (term : ℕ) → JobBody
  HandBack : (term : ℕ) → JobBody
  Begin : (beginning : Beginning) → JobBody
  Finish : (ending : Ending) → JobBody

pub data Body : Type 0 where
  Submit : (owner : List ℕ) (values : JobValues) (held : Bool) → Body
  OfJob : (job : StampValue) (what : JobBody) → Body
  Reserve : (window : Window) → Body
  Cancel : (reservation : StampValue) → Body
  Retire : (first last : ℕ) → Body

-- the job that the operation is of: a job is known by the stamp of its Submit
abbrev pub job_of : StampValue → Body → Option StampValue
job_of t (Submit owner values held) = Some t
job_of t (OfJob job what) = Some job
job_of t (Reserve window) = None
job_of t (Cancel reservation) = None
job_of t (Retire first last) = None

-- the reservation that the operation is of: a reservation is known by the stamp of its Reserve
abbrev pub reservation_of : StampValue → Body → Option StampValue
reservation_of t (Reserve window) = Some t
reservation_of t (Cancel reservation) = Some reservation
reservation_of t _ = None

abbrev pub is_this : StampValue → Option StampValue → Bool
is_this id None = false
is_this id (Some t) = same_stamp t id

abbrev pub is_of_job : StampValue → StampValue × Body → Bool
is_of_job job e = is_this job (job_of e.0 e.1)

abbrev pub is_of_reservation : StampValue → StampValue × Body → Bool
is_of_reservation id e = is_this id (reservation_of e.0 e.1)

-- the operations of one job
abbrev pub of_job : StampValue → History Body → History Body
of_job job ops = filter (is_of_job job) ops

-- the operations of one reservation
abbrev pub of_reservation : StampValue → History Body → History Body
of_reservation id ops = filter (is_of_reservation id) ops
