-- What the changed records of a board read as, and that a board may have them.
use Rattle.std.specs.BTreeMap.{is_at}
use Rattle.std.specs.Cmp.{eq_by_cmp_equiv}
use Rattle.std.specs.List.Sorted.{IsStrictlySortedBy}
use Rattle.std.specs.Map.{keys_of, lookup}
use Rattle.std.specs.Ordering.{nat_cmp}
use Rattle.std.specs.Prelude.{◌&&◌}
use Rattle.std.proofs.Common.{◌≡◌, ℕ, List, [], Bool, true, false, cond, filter, Option, Some, None, IfSome, unwrap_or, refl, sym, ap, subst, ◌∙◌}
use Rattle.std.proofs.lemmas.Option.{IfSome_then}
use Rattle.std.proofs.lemmas.Map.Entries.{lookup-filter-values, option_filter}
use Rattle.std.proofs.lemmas.Map.Keys.{IsDistinct-from_sorted}
use Rattle.fed_stamp.specs.Stamp.{StampValue}
use Rattle.fed_lattice.specs.Latest.{stamp_cmp}
use Rattle.fed_lattice.specs.LatestLaws.{stamp_total}
use Rattle.fed_lattice.specs.Table.{value_at, IsAtEach}
use Rattle.fed_record.specs.JobRecord.{JobRecordValue, job_reads}
use Rattle.fed_model.specs.JobView.{job_view}
use Rattle.fed_model.specs.Reservation.{ReservationView}
use Rattle.fed_board.specs.Board.{BoardValue, AreKept, IsBoard, IsKnownJob, IsKnownReservation, no_operation, board_reads}
use Rattle.fed_ranges.specs.Retired.{has_retired, latest_retires}
use Rattle.fed_theory.specs.Cut.{is_changed_job, is_changed_reservation, is_changed_site, cut}
use Rattle.fed_delta.specs.Retired.{retired_beyond}
use Rattle.fed_delta.proofs.RetiredCuts.{has_beyond, known_beyond, latest_beyond}

-- ---- entries whose values pass a test
module _ {X : Type 0} (p : X → Bool) (es : List (StampValue × X)) (s : IsStrictlySortedBy stamp_cmp (keys_of es)) where
  lookup-changed : (id : StampValue) → lookup (is_at (stamp_cmp id)) (filter (λ e. p e.1) es) ≡ option_filter p (lookup (is_at (stamp_cmp id)) es)
  lookup-changed id = lookup-filter-values (eq_by_cmp_equiv stamp_total) p id es (IsDistinct-from_sorted stamp_cmp (keys_of es) s)

  still : (P : X → Type 0) (a : Option X) → IfSome a P → IfSome (option_filter p a) P
  still P None h = tt
  still P (Some x) h = go (p x) where
    go : (b : Bool) → IfSome (cond b (Some x) None) P
    go true = h
    go false = tt

  pub each_changed : (P : StampValue → X → Type 0) → IsAtEach stamp_cmp P es → IsAtEach stamp_cmp P (filter (λ e. p e.1) es)
  each_changed P h id = subst (λ a. IfSome a (P id)) (sym (lookup-changed id)) (still (P id) (lookup (is_at (stamp_cmp id)) es) (h id))

-- ---- what is read of them
same_both : {A : Type 0} (b : Bool) (x : A) → x ≡ cond b x x
same_both true x = refl
same_both false x = refl

job_changed : (need : List ℕ) (a : Option JobRecordValue) → job_reads (unwrap_or (option_filter (λ r. is_changed_job need (job_reads r)) a) no_operation)
    ≡ cond (is_changed_job need (job_reads (unwrap_or a no_operation))) (job_reads (unwrap_or a no_operation)) (job_view [])
job_changed need None = same_both (is_changed_job need (job_reads no_operation)) (job_reads no_operation)
job_changed need (Some r) = go (is_changed_job need (job_reads r)) where
  go : (b : Bool) → job_reads (unwrap_or (cond b (Some r) None) no_operation) ≡ cond b (job_reads r) (job_view [])
  go true = refl
  go false = refl

reservation_changed : (need : List ℕ) (a : Option ReservationView) → unwrap_or (option_filter (is_changed_reservation need) a) None
    ≡ cond (is_changed_reservation need (unwrap_or a None)) (unwrap_or a None) None
reservation_changed need None = refl
reservation_changed need (Some r) = go (is_changed_reservation need r) where
  go : (b : Bool) → unwrap_or (cond b (Some r) None) None ≡ cond b r None
  go true = refl
  go false = refl

module _ (need : List ℕ) (b : BoardValue) (board : IsBoard b) (u : IsStrictlySortedBy nat_cmp (keys_of b.retired)) (s : IsStrictlySortedBy stamp_cmp (keys_of b.jobs)) (t : IsStrictlySortedBy stamp_cmp (keys_of b.reservations)) where
  abbrev changes : BoardValue
  changes = record {
    version = b.version;
    retired = retired_beyond need b.retired;
    jobs = filter (λ (e : StampValue × JobRecordValue). is_changed_job need (job_reads e.1)) b.jobs;
    reservations = filter (λ (e : StampValue × ReservationView). is_changed_reservation need e.1) b.reservations;
  }

  changed_retired : (id : StampValue) → has_retired (retired_beyond need b.retired) id ≡ (is_changed_site need (latest_retires b.retired) id.site && has_retired b.retired id)
  changed_retired = has_beyond need b.version b.retired u board.retired

  -- what isn't retired on the board isn't among what is retired there beyond the version
  still_kept : {X : Type 0} (es : List (StampValue × X)) → AreKept b.retired es → AreKept (retired_beyond need b.retired) es
  still_kept es kept id = IfSome_then (lookup (is_at (stamp_cmp id)) es) (kept id) (λ x none. changed_retired id ∙ ap (λ e. is_changed_site need (latest_retires b.retired) id.site && e) none ∙ and_none (is_changed_site need (latest_retires b.retired) id.site))
    where
      and_none : (c : Bool) → (c && false) ≡ false
      and_none true = refl
      and_none false = refl

  changes_known : IsBoard changes
  changes_known = record {
    retired = known_beyond need b.version b.retired u board.retired;
    jobs = each_changed (λ r. is_changed_job need (job_reads r)) b.jobs s (IsKnownJob b.version) board.jobs;
    reservations = each_changed (is_changed_reservation need) b.reservations t (IsKnownReservation b.version) board.reservations;
    kept_jobs = each_changed (λ r. is_changed_job need (job_reads r)) b.jobs s (λ id x. has_retired (retired_beyond need b.retired) id ≡ false) (still_kept b.jobs board.kept_jobs);
    kept_reservations = each_changed (is_changed_reservation need) b.reservations t (λ id x. has_retired (retired_beyond need b.retired) id ≡ false) (still_kept b.reservations board.kept_reservations);
  }

  changed_job_read : (id : StampValue) → job_reads (value_at stamp_cmp no_operation changes.jobs id)
      ≡ cond (is_changed_job need (job_reads (value_at stamp_cmp no_operation b.jobs id))) (job_reads (value_at stamp_cmp no_operation b.jobs id)) (job_view [])
  changed_job_read id =
      ap (λ a. job_reads (unwrap_or a no_operation)) (lookup-changed (λ r. is_changed_job need (job_reads r)) b.jobs s id)
      ∙ job_changed need (lookup (is_at (stamp_cmp id)) b.jobs)

  reservation_reads : (id : StampValue) → value_at stamp_cmp None changes.reservations id
      ≡ cond (is_changed_reservation need (value_at stamp_cmp None b.reservations id)) (value_at stamp_cmp None b.reservations id) None
  reservation_reads id =
      ap (λ a. unwrap_or a None) (lookup-changed (is_changed_reservation need) b.reservations t id)
      ∙ reservation_changed need (lookup (is_at (stamp_cmp id)) b.reservations)

  changes_read : board_reads changes ≡ cut (board_reads b) need
  unfolding cut
  changes_read = λ i. record {
    version = b.version;
    retirements = latest_beyond need b.version b.retired u board.retired i;
    retired = λ id. changed_retired id i;
    job = λ id. changed_job_read id i;
    reservation = λ id. reservation_reads id i;
  }

  -- the board that is made of them
  module _ (made : BoardValue) (version : made.version ≡ b.version) (retired : made.retired ≡ retired_beyond need b.retired)
      (jobs : made.jobs ≡ filter (λ (e : StampValue × JobRecordValue). is_changed_job need (job_reads e.1)) b.jobs)
      (reservations : made.reservations ≡ filter (λ (e : StampValue × ReservationView). is_changed_reservation need e.1) b.reservations) where
    is_changes : made ≡ changes
    is_changes = λ i. record { version = version i; retired = retired i; jobs = jobs i; reservations = reservations i }

    pub made_known : IsBoard made
    made_known = subst IsBoard (sym is_changes) changes_known

    pub made_reads : board_reads made ≡ cut (board_reads b) need
    made_reads = ap board_reads is_changes ∙ changes_read
