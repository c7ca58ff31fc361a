use Rattle.std.proofs.Common.{◌≡◌, ◌++◌, List, None, filter, sym, ap, subst, ◌∙◌}
use Rattle.std.specs.Map.{keys_of}
use Rattle.std.specs.List.Sorted.{IsStrictlySortedBy}
use Rattle.fed_lattice.specs.Latest.{stamp_cmp}
use Rattle.fed_record.proofs.JobRecordReads.{joined_jobs_read}
use Rattle.fed_record.specs.JobRecordSteps.{joined_record}
use Rattle.fed_lattice.specs.Register.{joined_registers}
use Rattle.fed_theory.specs.ValueOrders.{option_window_cmp}
use Rattle.fed_ranges.specs.Retired.{has_retired}
use Rattle.fed_board.specs.Board.{BoardValue, IsBoard, board_reads, more_retired, no_operation, with_records}
use Rattle.fed_board.specs.Changes.{AreListed}
use Rattle.fed_board.specs.Counts.{AreCounts}
use Rattle.fed_stamp.specs.Stamp.{StampValue}
use Rattle.fed_record.specs.JobRecord.{JobRecordValue}
use Rattle.fed_model.specs.Reservation.{ReservationView}
use Rattle.fed_board.proofs.BoardKeeps.{join_touched}
use Rattle.fed_board.proofs.ListedJobs.{dropped_listed, joined_listed, still_listed}
use Rattle.fed_board.proofs.CountLaws.{counting_joined}
use Rattle.fed_board.proofs.RecordJoins.{gone, with_records_keeps, with_records_reads, with_records_same}
use Rattle.fed_board.proofs.Retirings.{joined_dropped}
use Rattle.fed_board.proofs.boards.Board.join_records.Goals as goal

pub count_more-self-inside-requires : goal.count_more-self-inside-requires
count_more-self-inside-requires c =
    let sorted = subst (λ (b : BoardValue). IsStrictlySortedBy stamp_cmp (keys_of b.jobs)) (sym c.self.view_is) c.tables_are_well_formed.ensures.jobs.0 in
    let other = subst (λ (b : BoardValue). IsStrictlySortedBy stamp_cmp (keys_of b.jobs)) (sym c.other.view_is) c.tables_are_well_formed-2.ensures.jobs.0 in
    counting_joined c.self.inside.job_counts _ c.self.inside.jobs _ _ _ sorted other c.self.invariant.1 c.in_ok-jobs.ensures.first (c.deref.ensures.value ∙ c.in_ok-jobs.ensures.new_first)

pub count_more-self-inside-requires-2 : goal.count_more-self-inside-requires-2
count_more-self-inside-requires-2 c =
    let sorted = subst (λ (b : BoardValue). IsStrictlySortedBy stamp_cmp (keys_of b.reservations)) (sym c.self.view_is) c.tables_are_well_formed.ensures.reservations.0 in
    let other = subst (λ (b : BoardValue). IsStrictlySortedBy stamp_cmp (keys_of b.reservations)) (sym c.other.view_is) c.tables_are_well_formed-2.ensures.reservations.0 in
    counting_joined c.self.inside.reservation_counts _ c.self.inside.reservations _ _ _ sorted other c.self.invariant.2 c.in_ok-jobs.ensures.second (c.deref-2.ensures.value ∙ c.in_ok-jobs.ensures.new_second)

pub invariant_of-self : goal.invariant_of-self
invariant_of-self c = (
  c.self.invariant.0,
  c.self.invariant.1,
  c.self.invariant.2,
  still_listed c.self.inside.changes c.note_records.new.changes c.note_records.ensures.kept c.self.inside.jobs c.self.invariant.3,
)

pub invariant_of-self-in_err-jobs : goal.invariant_of-self-in_err-jobs
invariant_of-self-in_err-jobs c =
    let jobs = sym c.in_err-jobs.ensures.first_unchanged in
    let reservations = sym c.in_err-jobs.ensures.second_unchanged in
    let retired = sym c.in_err-jobs.ensures.third_unchanged in (
      subst IsBoard (λ n. record { version = c.self.inside.version; retired = retired n; jobs = jobs n; reservations = reservations n }) c.self.invariant.0,
      subst (λ (t : List (StampValue × JobRecordValue)). AreCounts c.self.inside.job_counts (keys_of t)) jobs c.self.invariant.1,
      subst (λ (t : List (StampValue × ReservationView)). AreCounts c.self.inside.reservation_counts (keys_of t)) reservations c.self.invariant.2,
      subst (AreListed c.note_records.new.changes) jobs (still_listed c.self.inside.changes c.note_records.new.changes c.note_records.ensures.kept c.self.inside.jobs c.self.invariant.3),
    )

pub invariant_of-self-2 : goal.invariant_of-self-2
invariant_of-self-2 c =
    let b : BoardValue = record { version = c.self.inside.version; retired = c.self.inside.retired; jobs = c.self.inside.jobs; reservations = c.self.inside.reservations } in
    let d : BoardValue = record { version = c.other.inside.version; retired = c.other.inside.retired; jobs = c.other.inside.jobs; reservations = c.other.inside.reservations } in
    let i = c.self.invariant.0 in
    let k = c.other.invariant in
    let ascending = subst (λ (x : BoardValue). IsStrictlySortedBy stamp_cmp (keys_of x.jobs)) (sym c.self.view_is) c.tables_are_well_formed.ensures.jobs.0 in
    let ascend = subst (λ (x : BoardValue). IsStrictlySortedBy stamp_cmp (keys_of x.reservations)) (sym c.self.view_is) c.tables_are_well_formed.ensures.reservations.0 in
    let mine = sym c.self.view_is in
    let theirs = sym c.other.view_is in
    let version = c.join-reached.ensures in
    let retired = c.in_ok-jobs.ensures.third in
    let jobs : c.drop_ids.new.table ≡ (with_records joined_record b d).jobs = joined_dropped no_operation joined_record b.jobs d.jobs c.join_entries.new.first c.drop_ids.new.table b.version d.version b.retired d.retired (more_retired b d) _
    i.kept_jobs k.kept_jobs (gone joined_record joined_jobs_read b d i k) ascending c.in_ok-jobs.ensures.first (c.deref-3.ensures.value ∙ c.in_ok-gone_jobs.ensures ∙ (λ n. filter (has_retired (theirs n).retired) (keys_of (mine n).jobs) ++ filter (has_retired (mine n).retired) (keys_of (theirs n).jobs))) c.drop_ids.ensures.dropped in
    let reservations : c.drop_ids-2.new.table ≡ (with_records joined_record b d).reservations = joined_dropped None (λ x v y w. joined_registers option_window_cmp x y) b.reservations d.reservations c.join_entries.new.second c.drop_ids-2.new.table b.version d.version b.retired d.retired (more_retired b d) _
    i.kept_reservations k.kept_reservations (gone joined_record joined_jobs_read b d i k) ascend c.in_ok-jobs.ensures.second (c.deref-4.ensures.value ∙ c.in_ok-gone_reservations.ensures ∙ (λ n. filter (has_retired (theirs n).retired) (keys_of (mine n).reservations) ++ filter (has_retired (mine n).retired) (keys_of (theirs n).reservations))) c.drop_ids-2.ensures.dropped in
    let keeps = with_records_keeps joined_record joined_jobs_read b d i k in
    let v = sym version in
    let r = sym retired in
    let j = sym jobs in
    let w = sym reservations in (
      subst IsBoard (λ n. record { version = v n; retired = r n; jobs = j n; reservations = w n }) keeps,
      c.drop_ids.ensures.counted,
      c.drop_ids-2.ensures.counted,
      subst (AreListed c.note_records.new.changes) j
          (dropped_listed c.note_records.new.changes (has_retired (more_retired b d)) _
          (joined_listed c.self.inside.changes c.note_records.new.changes c.note_records.ensures.kept b.jobs c.self.invariant.3 joined_record (join_touched joined_record joined_jobs_read)
          d.jobs b.version d.version c.in_ok-note_records.ensures.listed)),
    )

pub returns-clause-value : goal.returns-clause-value
returns-clause-value c =
    let b : BoardValue = record { version = c.self.inside.version; retired = c.self.inside.retired; jobs = c.self.inside.jobs; reservations = c.self.inside.reservations } in
    let d : BoardValue = record { version = c.other.inside.version; retired = c.other.inside.retired; jobs = c.other.inside.jobs; reservations = c.other.inside.reservations } in
    let i = c.self.invariant.0 in
    let k = c.other.invariant in
    let ascending = subst (λ (x : BoardValue). IsStrictlySortedBy stamp_cmp (keys_of x.jobs)) (sym c.self.view_is) c.tables_are_well_formed.ensures.jobs.0 in
    let ascend = subst (λ (x : BoardValue). IsStrictlySortedBy stamp_cmp (keys_of x.reservations)) (sym c.self.view_is) c.tables_are_well_formed.ensures.reservations.0 in
    let mine = sym c.self.view_is in
    let theirs = sym c.other.view_is in
    let version = c.join-reached.ensures in
    let retired = c.in_ok-jobs.ensures.third in
    let jobs : c.drop_ids.new.table ≡ (with_records joined_record b d).jobs = joined_dropped no_operation joined_record b.jobs d.jobs c.join_entries.new.first c.drop_ids.new.table b.version d.version b.retired d.retired (more_retired b d) _
    i.kept_jobs k.kept_jobs (gone joined_record joined_jobs_read b d i k) ascending c.in_ok-jobs.ensures.first (c.deref-3.ensures.value ∙ c.in_ok-gone_jobs.ensures ∙ (λ n. filter (has_retired (theirs n).retired) (keys_of (mine n).jobs) ++ filter (has_retired (mine n).retired) (keys_of (theirs n).jobs))) c.drop_ids.ensures.dropped in
    let reservations : c.drop_ids-2.new.table ≡ (with_records joined_record b d).reservations = joined_dropped None (λ x v y w. joined_registers option_window_cmp x y) b.reservations d.reservations c.join_entries.new.second c.drop_ids-2.new.table b.version d.version b.retired d.retired (more_retired b d) _
    i.kept_reservations k.kept_reservations (gone joined_record joined_jobs_read b d i k) ascend c.in_ok-jobs.ensures.second (c.deref-4.ensures.value ∙ c.in_ok-gone_reservations.ensures ∙ (λ n. filter (has_retired (theirs n).retired) (keys_of (mine n).reservations) ++ filter (has_retired (mine n).retired) (keys_of (theirs n).reservations))) c.drop_ids-2.ensures.dropped in
    (λ n. record { version = version n; retired = retired n; jobs = jobs n; reservations = reservations n })
    ∙ with_records_same joined_record joined_jobs_read b d c.args.self.now c.args.other.now c.self.view_is c.other.view_is

pub returns-clause-joined : goal.returns-clause-joined
returns-clause-joined c =
    let mine = subst IsBoard c.self.view_is c.self.invariant.0 in
    let whole = subst IsBoard c.other.view_is c.other.invariant in
    ap board_reads (returns-clause-value c)
    ∙ with_records_reads joined_record joined_jobs_read c.args.self.now c.args.other.now mine whole
