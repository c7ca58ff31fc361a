-- The identifiers that a board lists are those of the jobs that are submitted and of the reservations that are made.
use Rattle.std.specs.Ordering.{is_eq, eq_by_cmp}
use Rattle.std.specs.BTreeMap.{is_at}
use Rattle.std.specs.List.Sorted.{IsStrictlySortedBy}
use Rattle.std.specs.Map.{keys_of, lookup}
use Rattle.std.specs.Prelude.{filter}
use Rattle.std.proofs.Common.{◌≡◌, ◌<◌, ◌↔◌, ℕ, List, Bool, true, Option, Some, None, is_some, IsSome, IfSome, unwrap_or, refl, sym, ap, subst, ◌∙◌}
use Rattle.std.proofs.lemmas.Cmp.{tied_itself}
use Rattle.std.proofs.lemmas.List.Kept.{IsStrictlySortedBy-filter}
use Rattle.std.proofs.lemmas.Map.Views.{tells_apart}
use Rattle.fed_stamp.specs.Stamp.{StampValue}
use Rattle.fed_stamp.specs.Version.{covers}
use Rattle.fed_lattice.proofs.FilterLaws.{Has-filter, filter-Has}
use Rattle.fed_lattice.specs.ExactLaws.{exact_stamp}
use Rattle.fed_lattice.specs.Latest.{stamp_cmp}
use Rattle.fed_lattice.specs.LatestLaws.{stamp_total}
use Rattle.fed_lattice.specs.Sets.{Has}
use Rattle.fed_lattice.specs.SetLaws.{found, any_from}
use Rattle.fed_lattice.specs.TableEntryLaws.{any_lookup}
use Rattle.fed_record.specs.JobRecord.{JobRecordValue, job_reads}
use Rattle.fed_model.specs.Letter.{is_submitted}
use Rattle.fed_model.specs.Reservation.{ReservationView}
use Rattle.fed_board.specs.Board.{BoardValue, IsBoard, IsKnownJob, IsKnownReservation, no_operation, board_reads}
use Rattle.fed_model.specs.Identifiers.{covered_stamps, jobs_in, reservations_in}
use Rattle.fed_theory.proofs.CoveredStamps.{covered_ascend, covered_has, same_stamps}

-- an identifier is among the keys exactly where a look-up finds a value
listed : {X : Type 0} (es : List (StampValue × X)) (id : StampValue) → Has (keys_of es) id ↔ (is_some (lookup (is_at (stamp_cmp id)) es) ≡ true)
listed es id = (
  λ h. sym (any_lookup stamp_cmp stamp_total id es) ∙ any_from (eq_by_cmp stamp_cmp id) (keys_of es) id h (ap is_eq (tied_itself stamp_total id)),
  λ e.
      let f = found (eq_by_cmp stamp_cmp id) (keys_of es) (any_lookup stamp_cmp stamp_total id es ∙ e) in
      subst (Has (keys_of es)) (sym (tells_apart exact_stamp id f.0 f.2)) f.1,
)

-- a job that is found is submitted, and one that is not reads as one without operations
pub submitted_found : (v : List ℕ) (job : StampValue) (a : Option JobRecordValue) → IfSome a (IsKnownJob v job) → is_submitted (job_reads (unwrap_or a no_operation)) ≡ is_some a
submitted_found v job None p = refl
submitted_found v job (Some r) p = p.submitted

pub made_found : (v : List ℕ) (id : StampValue) (a : Option ReservationView) → IfSome a (IsKnownReservation v id) → is_some (unwrap_or a None) ≡ is_some a
made_found v id None p = refl
made_found v id (Some r) p = p.made

pub listed_jobs : (b : BoardValue) → IsBoard b → (job : StampValue) → Has (keys_of b.jobs) job ↔ (is_submitted ((board_reads b).job job) ≡ true)
listed_jobs b i job =
    let l = listed b.jobs job in
    let e = submitted_found b.version job (lookup (is_at (stamp_cmp job)) b.jobs) (i.jobs job) in
    (λ h. e ∙ l.0 h, λ s. l.1 (sym e ∙ s))

pub listed_reservations : (b : BoardValue) → IsBoard b → (id : StampValue) → Has (keys_of b.reservations) id ↔ IsSome ((board_reads b).reservation id)
listed_reservations b i id =
    let l = listed b.reservations id in
    let e = made_found b.version id (lookup (is_at (stamp_cmp id)) b.reservations) (i.reservations id) in
    (λ h. e ∙ l.0 h, λ s. l.1 (sym e ∙ s))

-- ---- the identifiers are those that are computed of what is read
covered_job : (v : List ℕ) (job : StampValue) (a : Option JobRecordValue) → IfSome a (IsKnownJob v job) → is_some a ≡ true → (job.site < 16) × (covers v job ≡ true)
covered_job v job None p e = cc
covered_job v job (Some r) p e = (p.placed, p.named)

covered_id : (v : List ℕ) (id : StampValue) (a : Option ReservationView) → IfSome a (IsKnownReservation v id) → is_some a ≡ true → (id.site < 16) × (covers v id ≡ true)
covered_id v id None p e = cc
covered_id v id (Some r) p e = (p.placed, p.named)

pub known_job : (v : List ℕ) (job : StampValue) (a : Option JobRecordValue) → IfSome a (IsKnownJob v job) → is_submitted (job_reads (unwrap_or a no_operation)) ≡ true → (job.site < 16) × (covers v job ≡ true)
known_job v job None p e = cc
known_job v job (Some r) p e = (p.placed, p.named)

pub known_reservation : (v : List ℕ) (id : StampValue) (a : Option ReservationView) → IfSome a (IsKnownReservation v id) → is_some (unwrap_or a None) ≡ true → (id.site < 16) × (covers v id ≡ true)
known_reservation v id None p e = cc
known_reservation v id (Some r) p e = (p.placed, p.named)

-- identifiers that ascend, are covered and are exactly those that pass a test
ids_are : (v : List ℕ) (p : StampValue → Bool) (ids : List StampValue) → IsStrictlySortedBy stamp_cmp ids → ((id : StampValue) → Has ids id ↔ (p id ≡ true))
    → ((id : StampValue) → Has ids id → (id.site < 16) × (covers v id ≡ true)) → ids ≡ filter p (covered_stamps v)
ids_are v p ids ascending all covered =
    same_stamps ids (filter p (covered_stamps v)) ascending (IsStrictlySortedBy-filter stamp_cmp p (covered_stamps v) (covered_ascend v))
    (λ id h. let c = covered id h in filter-Has p (covered_stamps v) id (covered_has v id c.0 c.1) ((all id).0 h))
    (λ id h. (all id).1 (Has-filter p (covered_stamps v) id h).1)

pub jobs_are : (b : BoardValue) → IsBoard b → IsStrictlySortedBy stamp_cmp (keys_of b.jobs) → keys_of b.jobs ≡ jobs_in (board_reads b)
jobs_are b i ascending = ids_are b.version (λ job. is_submitted ((board_reads b).job job)) (keys_of b.jobs) ascending (listed_jobs b i)
    (λ job h. covered_job b.version job (lookup (is_at (stamp_cmp job)) b.jobs) (i.jobs job) ((listed b.jobs job).0 h))

pub reservations_are : (b : BoardValue) → IsBoard b → IsStrictlySortedBy stamp_cmp (keys_of b.reservations) → keys_of b.reservations ≡ reservations_in (board_reads b)
reservations_are b i ascending = ids_are b.version (λ id. is_some ((board_reads b).reservation id)) (keys_of b.reservations) ascending (listed_reservations b i)
    (λ id h. covered_id b.version id (lookup (is_at (stamp_cmp id)) b.reservations) (i.reservations id) ((listed b.reservations id).0 h))
