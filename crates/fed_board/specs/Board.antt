-- What a board is, and what is read of it.
use Rattle.std.specs.Prelude.{◌≡◌, ◌≢◌, ◌<◌, ◌≤◌, ℕ, true, false, replicate, List, [], None, IsSome}
use Rattle.std.specs.Map.{lookup}
use Rattle.std.specs.BTreeMap.{is_at}
use Rattle.std.specs.Ordering.{nat_cmp}
use Rattle.fed_stamp.specs.declared.sites.TheConstants.{SITES}
use Rattle.fed_stamp.specs.Stamp.{StampValue}
use Rattle.fed_stamp.specs.Version.{counter_of, covers, joined, is_below}
use Rattle.fed_lattice.specs.Latest.{stamp_cmp}
use Rattle.fed_lattice.specs.Register.{joined_registers}
use Rattle.fed_lattice.specs.Table.{IsAtEach, value_at, joined_tables}
use Rattle.fed_lattice.specs.JoinedEntries.{joined_entries}
use Rattle.fed_ranges.specs.Dropped.{dropped}
use Rattle.fed_ranges.specs.Ranges.{AreApart}
use Rattle.fed_ranges.specs.Retired.{RetiredValue, has_retired, latest_retires}
use Rattle.fed_ranges.specs.Retirements.{RetirementsValue, no_retirements, joined_retirements, EndBefore}
use Rattle.fed_model.specs.Body.{Body, Body.Submit, Body.OfJob, Body.Reserve, Body.Cancel, Body.Retire}
use Rattle.fed_record.specs.JobRecord.{JobRecordValue, job_reads}
use Rattle.fed_model.specs.Letter.{is_submitted}
use Rattle.fed_model.specs.Reservation.{ReservationView}
use Rattle.fed_theory.specs.ValueOrders.{option_window_cmp}
use Rattle.fed_record.specs.JobRecordSteps.{empty_record}
use Rattle.fed_record.specs.CoveredJob.{covers_register, IsCoveredJob}
use Rattle.fed_model.specs.View.{View}

-- a version, what each site has retired, the records of jobs by the stamps of their Submits, and the reservations by the
-- stamps of their Reserves
pub record BoardValue : Type 0 where
  pub version : List ℕ
  pub retired : RetiredValue
  pub jobs : List (StampValue × JobRecordValue)
  pub reservations : List (StampValue × ReservationView)

-- the board of no operation
abbrev pub empty_board : BoardValue
empty_board = record { version = replicate SITES 0; retired = []; jobs = []; reservations = [] }

-- the record of a job that has no operation
abbrev pub no_operation : JobRecordValue
no_operation = empty_record

-- a board stands for a set of operations where it reads as the set's view. A job that is not on the board reads as
-- one without operations, and so does a reservation
abbrev pub board_reads : BoardValue → View
board_reads b = record {
  version = b.version;
  retirements = latest_retires b.retired;
  retired = has_retired b.retired;
  job = λ job. job_reads (value_at stamp_cmp no_operation b.jobs job);
  reservation = λ id. value_at stamp_cmp None b.reservations id;
}

-- of a board of the version: the job's identifier is of one of the 16 sites and is covered, the job is submitted, its
-- operations are covered, and so is, by the version of its operations, every stamp and every tag that is read of it
pub record IsKnownJob (version : List ℕ) (job : StampValue) (r : JobRecordValue) : Type 0 where
  pub placed : job.site < SITES
  pub named : covers version job ≡ true
  pub submitted : is_submitted (job_reads r) ≡ true
  pub touched : is_below r.touched version ≡ true
  pub stamps : IsCoveredJob (job_reads r)

-- the reservation's identifier is of one of the 16 sites and is covered, the reservation is made, and its greatest
-- stamp is covered
pub record IsKnownReservation (version : List ℕ) (id : StampValue) (r : ReservationView) : Type 0 where
  pub placed : id.site < SITES
  pub named : covers version id ≡ true
  pub made : IsSome r
  pub stamp : covers_register version r ≡ true

-- one of the 16 sites has retired something: its latest Retire is covered, its ranges begin at 1 or later, none touches
-- another, and each ends before the Retire
pub record AreKnownRetirements (version : List ℕ) (site : ℕ) (r : RetirementsValue) : Type 0 where
  pub placed : site < SITES
  pub covered : r.latest ≤ counter_of version site
  pub apart : AreApart 1 r.ranges
  pub before : EndBefore r.latest r.ranges
  pub some : r.ranges ≢ []

-- no identifier of the table is retired
abbrev pub AreKept : {X : Type 0} → RetiredValue → List (StampValue × X) → Type 0
AreKept retired es = IsAtEach stamp_cmp (λ id x. has_retired retired id ≡ false) es

-- what holds of every board
pub record IsBoard (b : BoardValue) : Type 0 where
  pub retired : IsAtEach nat_cmp (AreKnownRetirements b.version) b.retired
  pub jobs : IsAtEach stamp_cmp (IsKnownJob b.version) b.jobs
  pub reservations : IsAtEach stamp_cmp (IsKnownReservation b.version) b.reservations
  pub kept_jobs : AreKept b.retired b.jobs
  pub kept_reservations : AreKept b.retired b.reservations

-- the job is on the board
abbrev pub HasJob : BoardValue → StampValue → Type 0
HasJob b job = IsSome (lookup (is_at (stamp_cmp job)) b.jobs)

abbrev pub HasReservation : BoardValue → StampValue → Type 0
HasReservation b id = IsSome (lookup (is_at (stamp_cmp id)) b.reservations)

-- The job or the reservation that an operation with the stamp is of is on the board, unless the operation makes it. A
-- range is of identifiers that were given before
abbrev pub HasNamed : BoardValue → StampValue → Body → Type 0
HasNamed b at (Submit owner values held) = Unit {0}
HasNamed b at (OfJob job what) = HasJob b job
HasNamed b at (Reserve window) = Unit {0}
HasNamed b at (Cancel id) = HasReservation b id
HasNamed b at (Retire first last) = (1 ≤ first) × (first ≤ last) × (last < at.counter)

-- what two boards have retired together
abbrev pub joined_retired : BoardValue → BoardValue → RetiredValue
joined_retired b c = joined_tables nat_cmp no_retirements joined_retirements b.retired b.version c.retired c.version

-- what two boards merge to, where the records of a job join as said: at each identifier what the two boards have there,
-- each beside its version, but for those that one of the two has retired
abbrev pub merged : (JobRecordValue → List ℕ → JobRecordValue → List ℕ → JobRecordValue) →
    BoardValue → BoardValue → BoardValue
merged join_records b c = record {
  version = joined b.version c.version;
  retired = joined_retired b c;
  jobs = dropped (has_retired (joined_retired b c))
      (joined_tables stamp_cmp no_operation join_records b.jobs b.version c.jobs c.version);
  reservations = dropped (has_retired (joined_retired b c))
      (joined_tables stamp_cmp None (λ x v y w. joined_registers option_window_cmp x y)
      b.reservations b.version c.reservations c.version);
}

-- what a board has retired once what another has is known
abbrev pub more_retired : BoardValue → BoardValue → RetiredValue
more_retired b c = joined_entries nat_cmp no_retirements joined_retirements b.retired b.version c.retired c.version

-- the board with the records of another: at each identifier that the other board has, what the two boards merge to
-- there, and at every other identifier what was there, but for those that one of the two has retired
abbrev pub with_records : (JobRecordValue → List ℕ → JobRecordValue → List ℕ → JobRecordValue) →
    BoardValue → BoardValue → BoardValue
with_records join_two b c = record {
  version = joined b.version c.version;
  retired = more_retired b c;
  jobs = dropped (has_retired (more_retired b c))
      (joined_entries stamp_cmp no_operation join_two b.jobs b.version c.jobs c.version);
  reservations = dropped (has_retired (more_retired b c))
      (joined_entries stamp_cmp None (λ x v y w. joined_registers option_window_cmp x y)
      b.reservations b.version c.reservations c.version);
}
