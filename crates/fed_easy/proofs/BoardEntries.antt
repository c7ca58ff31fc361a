-- What is read of the entries of a board, and of their identifiers.
use Rattle.std.specs.List.{filter_map}
use Rattle.std.specs.List.Sorted.{IsStrictlySortedBy}
use Rattle.std.specs.Map.{keys_of}
use Rattle.std.proofs.Common.{◌≡◌, ℕ, List, [], ◌∷◌, ◌++◌, Option, Some, None, unwrap_or, refl, sym, ap, ◌∙◌, inl, inr, append-nil, append_assoc}
use Rattle.fed_stamp.specs.Stamp.{StampValue}
use Rattle.fed_lattice.specs.Latest.{stamp_cmp}
use Rattle.fed_lattice.specs.Sets.{Has}
use Rattle.fed_record.specs.JobRecord.{JobRecordValue, job_reads}
use Rattle.fed_model.specs.Reservation.{ReservationView}
use Rattle.fed_board.specs.Board.{BoardValue, no_operation, board_reads}
use Rattle.fed_board.proofs.FoundEntries.{entry_found}
use Rattle.fed_model.specs.Identifiers.{jobs_in, reservations_in}
use Rattle.fed_easy.specs.declared.bookings.Booking.{Booking}
use Rattle.fed_easy.specs.declared.machines.Running.{Running}
use Rattle.fed_easy.specs.declared.queues.QueuedJob.{QueuedJob}
use Rattle.fed_easy.specs.Machine.{running_in, running_of}
use Rattle.fed_easy.specs.Queue.{queued, waiting_in}
use Rattle.fed_easy.specs.SitePlan.{booked_at, reserved_in}

-- ---- entries in the order of their identifiers
-- what the identifiers say is what the entries say
pub ids_read : {X Y : Type 0} (f : StampValue → Option Y) (g : StampValue × X → Option Y) (es : List (StampValue × X)) → ((e : StampValue × X) → Has es e → f e.0 ≡ g e) → filter_map f (keys_of es) ≡ filter_map g es
ids_read f g [] h = refl
ids_read f g (e ∷ es) h =
    let first = h e (inl refl) in
    let rest = ids_read f g es (λ x k. h x (inr k)) in
    rw (first, rest) refl

-- ---- running jobs, and jobs that wait
abbrev pub entry_running : ℕ → StampValue × JobRecordValue → Option Running
entry_running site e = running_of site (job_reads e.1)

abbrev pub entry_waiting : ℕ → ℕ → StampValue × JobRecordValue → Option QueuedJob
entry_waiting site capacity e = queued site capacity e.0 (job_reads e.1)

module _ (b : BoardValue) (sorted : IsStrictlySortedBy stamp_cmp (keys_of b.jobs)) (ids : keys_of b.jobs ≡ jobs_in (board_reads b)) where
  entry_read : (e : StampValue × JobRecordValue) → Has b.jobs e → (board_reads b).job e.0 ≡ job_reads e.1
  entry_read e h = ap (λ (o : Option JobRecordValue). job_reads (unwrap_or o no_operation)) (entry_found b.jobs e sorted h)

  pub running_read : (site : ℕ) → running_in site (board_reads b) ≡ filter_map (entry_running site) b.jobs
  running_read site =
      ap (filter_map (λ job. running_of site ((board_reads b).job job))) (sym ids)
      ∙ ids_read (λ job. running_of site ((board_reads b).job job)) (entry_running site) b.jobs (λ e h. ap (running_of site) (entry_read e h))

  pub running_done : (site : ℕ) (xs : List Running) (rest : List (StampValue × JobRecordValue)) → xs ++ filter_map (entry_running site) rest ≡ filter_map (entry_running site) b.jobs → rest ≡ []
      → xs ≡ running_in site (board_reads b)
  running_done site xs rest same none =
      let whole : xs ++ [] ≡ filter_map (entry_running site) b.jobs = rw none at same in
      sym (append-nil xs) ∙ whole ∙ sym (running_read site)

  waiting_read : (site capacity : ℕ) → waiting_in site capacity (board_reads b) ≡ filter_map (entry_waiting site capacity) b.jobs
  waiting_read site capacity =
      ap (filter_map (λ job. queued site capacity job ((board_reads b).job job))) (sym ids)
      ∙ ids_read (λ job. queued site capacity job ((board_reads b).job job)) (entry_waiting site capacity) b.jobs (λ e h. ap (queued site capacity e.0) (entry_read e h))

  pub waiting_done : (site capacity : ℕ) (xs : List QueuedJob) → xs ≡ filter_map (entry_waiting site capacity) b.jobs → xs ≡ waiting_in site capacity (board_reads b)
  waiting_done site capacity xs same = same ∙ sym (waiting_read site capacity)

-- a job that waits goes from what is left to the list
pub waiting_more : (site capacity : ℕ) (xs new : List QueuedJob) (es : List (StampValue × JobRecordValue)) (e : StampValue × JobRecordValue) (rest : List (StampValue × JobRecordValue)) (j : QueuedJob) (whole : List QueuedJob)
    → es ≡ e ∷ rest → entry_waiting site capacity e ≡ Some j → new ≡ xs ++ j ∷ [] → xs ++ filter_map (entry_waiting site capacity) es ≡ whole → new ++ filter_map (entry_waiting site capacity) rest ≡ whole
waiting_more site capacity xs new es e rest j whole left waits pushed so_far =
    let step : filter_map (entry_waiting site capacity) es ≡ j ∷ filter_map (entry_waiting site capacity) rest = rw (left, waits) refl in
    rw (pushed, append_assoc) (rw step at so_far)

pub none_left : (site capacity : ℕ) (xs : List QueuedJob) (rest : List (StampValue × JobRecordValue)) (whole : List QueuedJob) → xs ++ filter_map (entry_waiting site capacity) rest ≡ whole → rest ≡ [] → xs ≡ whole
none_left site capacity xs rest whole same none =
    let all : xs ++ [] ≡ whole = rw none at same in
    sym (append-nil xs) ∙ all

-- ---- reservations
abbrev pub read_reserved : ℕ → List (StampValue × ReservationView) → List Booking
read_reserved site es = filter_map (λ e. booked_at site e.1) es

pub reserved_read : (site : ℕ) (b : BoardValue) → IsStrictlySortedBy stamp_cmp (keys_of b.reservations) → keys_of b.reservations ≡ reservations_in (board_reads b) → reserved_in site (board_reads b) ≡ read_reserved site b.reservations
reserved_read site b sorted ids =
    ap (filter_map (λ id. booked_at site ((board_reads b).reservation id))) (sym ids)
    ∙ ids_read (λ id. booked_at site ((board_reads b).reservation id)) (λ e. booked_at site e.1) b.reservations
    (λ e h. ap (λ (o : Option ReservationView). booked_at site (unwrap_or o None)) (entry_found b.reservations e sorted h))

pub reserved_done : (site : ℕ) (b : BoardValue) → IsStrictlySortedBy stamp_cmp (keys_of b.reservations) → keys_of b.reservations ≡ reservations_in (board_reads b) → (old xs : List Booking) (rest : List (StampValue × ReservationView))
    → xs ++ read_reserved site rest ≡ old ++ read_reserved site b.reservations → rest ≡ [] → xs ≡ old ++ reserved_in site (board_reads b)
reserved_done site b sorted ids old xs rest same none =
    let whole : xs ++ [] ≡ old ++ read_reserved site b.reservations = rw none at same in
    sym (append-nil xs) ∙ whole ∙ ap (λ (bs : List Booking). old ++ bs) (sym (reserved_read site b sorted ids))
