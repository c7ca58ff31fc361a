-- What a board reads as with the records of another, and that what holds of every board is kept.
use Rattle.std.specs.BTreeMap.{is_at}
use Rattle.std.specs.Map.{lookup}
use Rattle.std.specs.Prelude.{if◌then◌else◌}
use Rattle.std.proofs.Common.{◌≡◌, ℕ, List, Bool, true, false, ◌||◌, cond, Option, Some, None, is_some, unwrap_or, refl, sym, ap, ap₂, ◌∙◌}
use Rattle.std.proofs.lemmas.Bool.{or_right}
use Rattle.std.proofs.lemmas.Option.{IfSome_then}
use Rattle.fed_stamp.specs.Stamp.{StampValue}
use Rattle.fed_stamp.specs.Version.{joined}
use Rattle.fed_stamp.proofs.VersionLaws.{covers_more, below_trans, below_joined_left}
use Rattle.fed_lattice.specs.ExactLaws.{exact_stamp}
use Rattle.fed_lattice.specs.Latest.{stamp_cmp}
use Rattle.fed_lattice.specs.LatestLaws.{stamp_total}
use Rattle.fed_lattice.specs.Register.{joined_registers}
use Rattle.fed_lattice.specs.JoinedEntries.{joined_entries}
use Rattle.fed_lattice.specs.Table.{value_at}
use Rattle.fed_lattice.proofs.EntryValues.{value_at-joined_entries, each_joined_entries}
use Rattle.fed_record.specs.JobRecord.{JobRecordValue, job_reads}
use Rattle.fed_theory.specs.JobSteps.{join_jobs}
use Rattle.fed_model.specs.JobView.{JobView}
use Rattle.fed_model.specs.Letter.{is_submitted}
use Rattle.fed_model.specs.Reservation.{ReservationView}
use Rattle.fed_theory.specs.ValueOrders.{option_window_cmp}
use Rattle.fed_model.specs.JobView.{unknown}
use Rattle.fed_ranges.specs.Dropped.{dropped}
use Rattle.fed_ranges.specs.Retired.{RetiredValue, has_retired}
use Rattle.fed_board.specs.Board.{BoardValue, IsBoard, IsKnownJob, IsKnownReservation, no_operation, board_reads, with_records, more_retired}
use Rattle.fed_theory.specs.ViewSteps.{join_records}
use Rattle.fed_board.proofs.BoardKeeps.{joined_known, joined_known_reservation}
use Rattle.fed_board.proofs.BoardReads.{read_dropped}
use Rattle.fed_board.proofs.CoveredJobs.{later_covered}
use Rattle.fed_board.proofs.DroppedTables.{each_dropped, kept_dropped, value_dropped}
use Rattle.fed_board.proofs.RetiredTables.{all_apart, at_entries, has_joined, known_entries, latest_joined}
use Rattle.fed_board.proofs.ListedIdentifiers.{submitted_found}

-- ---- beside a greater version
kept_job : (v w : List ℕ) (job : StampValue) (r : JobRecordValue) → IsKnownJob v job r → IsKnownJob (joined v w) job r
kept_job v w job r k = record {
  placed = k.placed;
  named = covers_more v (joined v w) job (below_joined_left v w) k.named;
  submitted = k.submitted;
  touched = below_trans r.touched v (joined v w) k.touched (below_joined_left v w);
  stamps = k.stamps;
}

kept_reservation : (v w : List ℕ) (id : StampValue) (r : ReservationView) → IsKnownReservation v id r → IsKnownReservation (joined v w) id r
kept_reservation v w id r k = record {
  placed = k.placed;
  named = covers_more v (joined v w) id (below_joined_left v w) k.named;
  made = k.made;
  stamp = later_covered (λ latest. latest.0) v (joined v w) (λ s. covers_more v (joined v w) s (below_joined_left v w)) r k.stamp;
}

-- joining none adds nothing
joined_none : (b : Bool) (x y : ReservationView) (a : Option ReservationView) → is_some a ≡ b → y ≡ unwrap_or a None → cond b (joined_registers option_window_cmp x y) x ≡ joined_registers option_window_cmp x y
joined_none true x y a i e = refl
joined_none false x y (Some r) i e = cc
joined_none false None y None i e = ap (λ r. joined_registers option_window_cmp None r) (sym e)
joined_none false (Some p) y None i e = ap (λ r. joined_registers option_window_cmp (Some p) r) (sym e)

module _ (join : JobRecordValue → List ℕ → JobRecordValue → List ℕ → JobRecordValue)
    (law : (r q : JobRecordValue) (v w : List ℕ) → job_reads (join r v q w) ≡ join_jobs v (job_reads r) w (job_reads q))
    (b c : BoardValue) where
  abbrev version : List ℕ
  version = joined b.version c.version

  abbrev retired : RetiredValue
  retired = more_retired b c

  abbrev jobs : List (StampValue × JobRecordValue)
  jobs = joined_entries stamp_cmp no_operation join b.jobs b.version c.jobs c.version

  abbrev windows : List (StampValue × ReservationView)
  windows = joined_entries stamp_cmp None (λ x v y w. joined_registers option_window_cmp x y) b.reservations b.version c.reservations c.version

  pub with_records_keeps : IsBoard b → IsBoard c → IsBoard (with_records join b c)
  with_records_keeps i k = record {
    retired = known_entries b.version c.version b.retired c.retired i.retired k.retired;
    jobs = each_dropped (IsKnownJob version) (has_retired retired) jobs (each_joined_entries stamp_cmp stamp_total exact_stamp no_operation join b.jobs c.jobs b.version c.version (IsKnownJob version)
        (λ id e. joined_known join law b.version c.version id (lookup (is_at (stamp_cmp id)) b.jobs) (lookup (is_at (stamp_cmp id)) c.jobs) (i.jobs id) (k.jobs id) (or_right _ _ e))
        (λ id. IfSome_then _ (i.jobs id) (λ r. kept_job b.version c.version id r)));
    reservations = each_dropped (IsKnownReservation version) (has_retired retired) windows (each_joined_entries stamp_cmp stamp_total exact_stamp None (λ x v y w. joined_registers option_window_cmp x y) b.reservations c.reservations b.version c.version (IsKnownReservation version)
        (λ id e. joined_known_reservation join law b.version c.version id (lookup (is_at (stamp_cmp id)) b.reservations) (lookup (is_at (stamp_cmp id)) c.reservations) (i.reservations id) (k.reservations id) (or_right _ _ e))
        (λ id. IfSome_then _ (i.reservations id) (λ r. kept_reservation b.version c.version id r)));
    kept_jobs = kept_dropped retired jobs;
    kept_reservations = kept_dropped retired windows;
  }

  abbrev old_job : StampValue → JobRecordValue
  old_job id = value_at stamp_cmp no_operation b.jobs id

  abbrev new_job : StampValue → JobRecordValue
  new_job id = value_at stamp_cmp no_operation c.jobs id

  abbrev job_by : Bool → StampValue → JobView
  job_by t id = cond t (join_jobs b.version (job_reads (old_job id)) c.version (job_reads (new_job id))) (job_reads (old_job id))

  joined_job_read : IsBoard c → (id : StampValue) → job_reads (value_at stamp_cmp no_operation jobs id) ≡ job_by (is_submitted (job_reads (new_job id))) id
  joined_job_read k id =
      ap job_reads (value_at-joined_entries stamp_cmp stamp_total exact_stamp no_operation join b.jobs c.jobs b.version c.version id)
      ∙ go (is_some (lookup (is_at (stamp_cmp id)) c.jobs))
      ∙ ap (λ t. job_by t id) (sym (submitted_found c.version id (lookup (is_at (stamp_cmp id)) c.jobs) (k.jobs id)))
    where
      go : (t : Bool) → job_reads (cond t (join (old_job id) b.version (new_job id) c.version) (old_job id)) ≡ job_by t id
      go true = law (old_job id) (new_job id) b.version c.version
      go false = refl

  reservation_reads : (id : StampValue) → value_at stamp_cmp None windows id ≡ joined_registers option_window_cmp (value_at stamp_cmp None b.reservations id) (value_at stamp_cmp None c.reservations id)
  reservation_reads id =
      value_at-joined_entries stamp_cmp stamp_total exact_stamp None (λ x v y w. joined_registers option_window_cmp x y) b.reservations c.reservations b.version c.version id
      ∙ joined_none (is_some (lookup (is_at (stamp_cmp id)) c.reservations)) (value_at stamp_cmp None b.reservations id) (value_at stamp_cmp None c.reservations id) (lookup (is_at (stamp_cmp id)) c.reservations) refl refl

  -- what is retired is what either has retired
  pub gone : IsBoard b → IsBoard c → (id : StampValue) → has_retired retired id ≡ (has_retired b.retired id || has_retired c.retired id)
  gone i k = has_joined b.retired c.retired b.version c.version retired (at_entries b.retired c.retired b.version c.version) (all_apart b.version b.retired i.retired) (all_apart c.version c.retired k.retired)

  pub with_records_reads : IsBoard b → IsBoard c → board_reads (with_records join b c) ≡ join_records (board_reads b) (board_reads c)
  unfolding join_records
  with_records_reads i k =
      let latest = latest_joined b.retired c.retired b.version c.version retired (at_entries b.retired c.retired b.version c.version) in
      let job : (id : StampValue) → job_reads (value_at stamp_cmp no_operation (dropped (has_retired retired) jobs) id) ≡ (if has_retired b.retired id || has_retired c.retired id then unknown else job_by (is_submitted (job_reads (new_job id))) id) =
      λ id. read_dropped (has_retired retired) jobs id ∙ (λ n. if gone i k id n then unknown else joined_job_read k id n) in
      let window : (id : StampValue) → value_at stamp_cmp None (dropped (has_retired retired) windows) id ≡ (if has_retired b.retired id || has_retired c.retired id then None else joined_registers option_window_cmp (value_at stamp_cmp None b.reservations id) (value_at stamp_cmp None c.reservations id)) =
      λ id. value_dropped None (has_retired retired) windows id ∙ (λ n. if gone i k id n then None else reservation_reads id n) in
      λ n. record {
        version = version;
        retirements = latest n;
        retired = λ id. gone i k id n;
        job = λ id. job id n;
        reservation = λ id. window id n;
      }

  pub with_records_same : (now other : BoardValue) → b ≡ now → c ≡ other → with_records join b c ≡ with_records join now other
  with_records_same now other e f = ap₂ (with_records join) e f
