-- What holds of every board holds after a change and merged.
use Rattle.std.specs.BTreeMap.{is_at}
use Rattle.std.specs.Map.{keys_of, values_of, lookup}
use Rattle.std.specs.List.Sorted.{IsStrictlySortedBy}
use Rattle.std.proofs.Common.{◌≡◌, ◌⊎◌, ℕ, ◌<◌, ◌≤◌, List, false, All, true, ◌||◌, Option, Some, None, is_some, IsSome, IfSome, unwrap_or, refl, sym, ap, subst, ◌∙◌, inl, inr}
use Rattle.std.proofs.lemmas.Option.{IfSome_then, same_Some}
use Rattle.fed_stamp.specs.Stamp.{StampValue}
use Rattle.fed_stamp.specs.Version.{covers, joined, raised, is_below}
use Rattle.fed_stamp.proofs.VersionLaws.{covers_more, below_trans, below_joined_left, below_joined_right}
use Rattle.fed_lattice.specs.ExactLaws.{exact_stamp}
use Rattle.fed_lattice.specs.Latest.{stamp_cmp}
use Rattle.fed_lattice.specs.LatestLaws.{stamp_total}
use Rattle.fed_lattice.specs.Register.{joined_registers}
use Rattle.fed_lattice.specs.Stamped.{with_stamp}
use Rattle.fed_lattice.specs.Table.{IsAtEach}
use Rattle.fed_lattice.proofs.TableValues.{each_insert_entry, each_joined_tables, values_each}
use Rattle.fed_record.specs.declared.operations.Operation.{Operation}
use Rattle.fed_model.specs.declared.windows.Window.{Window}
use Rattle.fed_model.specs.Body.{Body, Body.Submit, Body.OfJob, Body.Reserve, Body.Cancel, Body.Retire, job_of, reservation_of}
use Rattle.fed_model.specs.Field.{window_in}
use Rattle.fed_record.specs.JobRecord.{JobRecordValue, job_reads}
use Rattle.fed_theory.specs.JobSteps.{add_to_job, join_jobs}
use Rattle.fed_model.specs.JobView.{JobView}
use Rattle.fed_model.specs.Letter.{is_submitted}
use Rattle.fed_record.specs.Operation.{body_of}
use Rattle.fed_model.specs.Reservation.{ReservationView}
use Rattle.fed_theory.specs.ValueOrders.{option_window_cmp}
use Rattle.fed_ranges.specs.declared.ranges.Range.{Range}
use Rattle.fed_ranges.specs.Retired.{RetiredValue, has_retired}
use Rattle.fed_board.specs.Board.{BoardValue, IsBoard, IsKnownJob, IsKnownReservation, AreKept, HasJob, HasNamed, no_operation, merged, joined_retired}
use Rattle.fed_board.proofs.ChangedBoards.{changed_job, changed_reservation, changed_ranges, with_more_retired}
use Rattle.fed_board.proofs.DroppedTables.{each_dropped, kept_dropped}
use Rattle.fed_board.proofs.RetiredTables.{fresh_kept, known_added, known_tables, later_retirements}
use Rattle.fed_record.specs.CoveredJob.{covers_register, IsCoveredJob}
use Rattle.fed_board.proofs.CoveredJobs.{covered_added, covered_joined, covered_nothing, later_covered, own_register, register_covered}
use Rattle.fed_board.proofs.SubmittedJobs.{set_left, set_right, submitted_added, submitted_by, submitted_left, submitted_right}
use Rattle.fed_theory.proofs.VersionGrowth.{below_raised, covers_raised, raised_below, zeros_below, joined_below}

-- ---- jobs
-- the record at an identifier is of operations that the version covers, also where the job is absent
touched_below : (v : List ℕ) (job : StampValue) (a : Option JobRecordValue) → IfSome a (IsKnownJob v job) → is_below (unwrap_or a no_operation).touched v ≡ true
touched_below v job None p = zeros_below 16 v
touched_below v job (Some r) p = p.touched

stamps_covered : (v : List ℕ) (job : StampValue) (a : Option JobRecordValue) → IfSome a (IsKnownJob v job) → IsCoveredJob (job_reads (unwrap_or a no_operation))
stamps_covered v job None p = covered_nothing
stamps_covered v job (Some r) p = p.stamps

present_known : (v : List ℕ) (job : StampValue) (a : Option JobRecordValue) → IfSome a (IsKnownJob v job) → IsSome a → IsKnownJob v job (unwrap_or a no_operation)
present_known v job None p i = cc
present_known v job (Some r) p i = p

-- the job that an operation is of is on the board, or the operation submits it
abbrev IsSubmitting : StampValue → StampValue → Body → Type 0
IsSubmitting at job b = (job ≡ at) × ((s : StampValue) (j : JobView) → is_submitted (add_to_job s b j) ≡ true)

on_board : (b : BoardValue) (job other : StampValue) → Some other ≡ Some job → HasJob b other → HasJob b job
on_board b job other e = subst (HasJob b) (same_Some other job e)

named_job : (b : BoardValue) (at job : StampValue) (body : Body) → job_of at body ≡ Some job → HasNamed b at body → HasJob b job ⊎ IsSubmitting at job body
named_job b at job (Submit owner values held) of n = inr (sym (same_Some at job of), λ s j. submitted_by s owner values held j)
named_job b at job (OfJob other what) of n = inl (on_board b job other of n)
named_job b at job (Reserve window) of n = cc
named_job b at job (Cancel id) of n = cc
named_job b at job (Retire first last) of n = cc

-- it is not retired: it is on the board, or of a stamp that is not covered
kept_where : {X : Type 0} (r : RetiredValue) (es : List (StampValue × X)) (id : StampValue) → AreKept r es → IsSome (lookup (is_at (stamp_cmp id)) es) → has_retired r id ≡ false
kept_where {X} r es id k i = go (lookup (is_at (stamp_cmp id)) es) (k id) i
  where
    go : (a : Option X) → IfSome a (λ x. has_retired r id ≡ false) → IsSome a → has_retired r id ≡ false
    go None p j = cc
    go (Some x) p j = p

kept_job : (b : BoardValue) (at job : StampValue) (body : Body) → IsBoard b → covers b.version at ≡ false → job_of at body ≡ Some job → HasNamed b at body → has_retired b.retired job ≡ false
kept_job b at job body i fresh of n = elim (named_job b at job body of n) [
  | inl here ↦ kept_where b.retired b.jobs job i.kept_jobs here
  | inr new ↦ subst (λ id. has_retired b.retired id ≡ false) (sym new.0) (fresh_kept b.version b.retired i.retired at fresh)
]

kept_reservation : (b : BoardValue) (at id : StampValue) (body : Body) → IsBoard b → covers b.version at ≡ false → reservation_of at body ≡ Some id → HasNamed b at body → has_retired b.retired id ≡ false
kept_reservation b at id (Submit owner values held) i fresh of n = cc
kept_reservation b at id (OfJob job what) i fresh of n = cc
kept_reservation b at id (Reserve window) i fresh of n = subst (λ k. has_retired b.retired k ≡ false) (same_Some at id of) (fresh_kept b.version b.retired i.retired at fresh)
kept_reservation b at id (Cancel other) i fresh of n = subst (λ k. has_retired b.retired k ≡ false) (same_Some other id of) (kept_where b.retired b.reservations other i.kept_reservations n)
kept_reservation b at id (Retire first last) i fresh of n = cc

later_job : (v : List ℕ) (at job : StampValue) (r : JobRecordValue) → IsKnownJob v job r → IsKnownJob (raised v at) job r
later_job v at job r k = record {
  placed = k.placed;
  named = covers_raised v at job k.named;
  submitted = k.submitted;
  touched = below_trans r.touched v (raised v at) k.touched (below_raised v at);
  stamps = k.stamps;
}

-- ---- reservations
abbrev latest_stamp : StampValue × Option Window → StampValue
latest_stamp latest = latest.0

later_reservation : (v : List ℕ) (at id : StampValue) (r : ReservationView) → IsKnownReservation v id r → IsKnownReservation (raised v at) id r
later_reservation v at id r k = record {
  placed = k.placed;
  named = covers_raised v at id k.named;
  made = k.made;
  stamp = later_covered latest_stamp v (raised v at) (λ s. covers_raised v at s) r k.stamp;
}

-- the greatest stamp is covered, also where the reservation is absent
covered_reservation : (v : List ℕ) (id : StampValue) (a : Option ReservationView) → IfSome a (IsKnownReservation v id) → covers_register v (unwrap_or a None) ≡ true
covered_reservation v id None p = refl
covered_reservation v id (Some r) p = p.stamp

present_reservation : (v : List ℕ) (id : StampValue) (a : Option ReservationView) → IfSome a (IsKnownReservation v id) → IsSome a → IsKnownReservation v id (unwrap_or a None)
present_reservation v id None p i = cc
present_reservation v id (Some r) p i = p

-- ---- a change
module _ (applied : JobRecordValue → StampValue → Operation → JobRecordValue)
    (law : (r : JobRecordValue) (s : StampValue) (c : Operation) → job_reads (applied r s c) ≡ add_to_job s (body_of c) (job_reads r)) where
  pub applied_touched : (r : JobRecordValue) (s : StampValue) (c : Operation) → (applied r s c).touched ≡ raised r.touched s
  unfolding add_to_job
  applied_touched r s c = ap (λ (j : JobView). j.touched) (law r s c)

  changed_known : (b : BoardValue) (at job : StampValue) (op : Operation) → IsBoard b → at.site < 16 → covers (raised b.version at) at ≡ true → job_of at (body_of op) ≡ Some job → HasNamed b at (body_of op)
      → IsKnownJob (raised b.version at) job (applied (unwrap_or (lookup (is_at (stamp_cmp job)) b.jobs) no_operation) at op)
  changed_known b at job op i small seen of n =
      let v = b.version in
      let a = lookup (is_at (stamp_cmp job)) b.jobs in
      let r : JobRecordValue = unwrap_or a no_operation in
      let below = subst (λ t. is_below t (raised v at) ≡ true) (sym (applied_touched r at op)) (raised_below r.touched v at seen (touched_below v job a (i.jobs job))) in
      let stamps = subst IsCoveredJob (sym (law r at op)) (covered_added at (body_of op) (job_reads r) small (stamps_covered v job a (i.jobs job))) in
      elim (named_job b at job (body_of op) of n) [
        | inl here ↦ let k = present_known v job a (i.jobs job) here in record {
          placed = k.placed;
          named = covers_raised v at job k.named;
          submitted = ap is_submitted (law r at op) ∙ submitted_added at (body_of op) (job_reads r) k.submitted;
          touched = below;
          stamps = stamps;
        }
        | inr new ↦ record {
          placed = subst (λ (s : StampValue). s.site < 16) (sym new.0) small;
          named = subst (λ s. covers (raised v at) s ≡ true) (sym new.0) seen;
          submitted = ap is_submitted (law r at op) ∙ new.1 at (job_reads r);
          touched = below;
          stamps = stamps;
        }
      ]

  pub changed_job_keeps : (b : BoardValue) (at job : StampValue) (op : Operation) → IsBoard b → at.site < 16 → covers b.version at ≡ false → covers (raised b.version at) at ≡ true → job_of at (body_of op) ≡ Some job → HasNamed b at (body_of op) → IsBoard (changed_job applied b at op job)
  changed_job_keeps b at job op i small fresh seen of n = record {
    retired = λ k. IfSome_then _ (i.retired k) (λ x. later_retirements b.version (raised b.version at) k x (below_raised b.version at));
    kept_jobs = each_insert_entry stamp_cmp stamp_total exact_stamp (λ id (x : JobRecordValue). has_retired b.retired id ≡ false) b.jobs job _ i.kept_jobs (kept_job b at job (body_of op) i fresh of n);
    kept_reservations = i.kept_reservations;
    jobs = each_insert_entry stamp_cmp stamp_total exact_stamp (IsKnownJob (raised b.version at)) b.jobs job _ (λ k. IfSome_then _ (i.jobs k) (λ r. later_job b.version at k r)) (changed_known b at job op i small seen of n);
    reservations = λ k. IfSome_then _ (i.reservations k) (λ r. later_reservation b.version at k r);
  }

-- an operation of a reservation sets its window or none
module _ (b : BoardValue) (at id : StampValue) (op : Operation) (i : IsBoard b) (small : at.site < 16) (seen : covers (raised b.version at) at ≡ true) where
  abbrev now : Option ReservationView
  now = lookup (is_at (stamp_cmp id)) b.reservations

  before : covers_register (raised b.version at) (unwrap_or now None) ≡ true
  before = later_covered latest_stamp b.version (raised b.version at) (λ s. covers_raised b.version at s) (unwrap_or now None) (covered_reservation b.version id now (i.reservations id))

  stamp_now : (window : Option (Option Window)) → covers_register (raised b.version at) (joined_registers option_window_cmp (unwrap_or now None) (with_stamp at window)) ≡ true
  stamp_now window = register_covered (raised b.version at) option_window_cmp (unwrap_or now None) (with_stamp at window) before (own_register at (raised b.version at) seen window)

  changed_known_reservation : (body : Body) → reservation_of at body ≡ Some id → HasNamed b at body → IsKnownReservation (raised b.version at) id (joined_registers option_window_cmp (unwrap_or now None) (with_stamp at (window_in body)))
  changed_known_reservation (Submit owner values held) of n = cc
  changed_known_reservation (OfJob job what) of n = cc
  changed_known_reservation (Retire first last) of n = cc
  changed_known_reservation (Reserve window) of n = record {
    placed = subst (λ (s : StampValue). s.site < 16) (same_Some at id of) small;
    named = subst (λ s. covers (raised b.version at) s ≡ true) (same_Some at id of) seen;
    made = set_right option_window_cmp (unwrap_or now None) (Some (at, Some window)) refl;
    stamp = stamp_now (Some (Some window));
  }
  changed_known_reservation (Cancel other) of n =
      let k = present_reservation b.version other (lookup (is_at (stamp_cmp other)) b.reservations) (i.reservations other) n in
      let same : other ≡ id = same_Some other id of in record {
        placed = subst (λ (s : StampValue). s.site < 16) same k.placed;
        named = covers_raised b.version at id (subst (λ t. covers b.version t ≡ true) same k.named);
        made = set_right option_window_cmp (unwrap_or now None) (Some (at, None)) refl;
        stamp = stamp_now (Some None);
      }

  pub changed_reservation_keeps : covers b.version at ≡ false → reservation_of at (body_of op) ≡ Some id → HasNamed b at (body_of op) → IsBoard (changed_reservation b at op id)
  changed_reservation_keeps fresh of n = record {
    retired = λ k. IfSome_then _ (i.retired k) (λ x. later_retirements b.version (raised b.version at) k x (below_raised b.version at));
    kept_jobs = i.kept_jobs;
    kept_reservations = each_insert_entry stamp_cmp stamp_total exact_stamp (λ k (x : ReservationView). has_retired b.retired k ≡ false) b.reservations id _ i.kept_reservations (kept_reservation b at id (body_of op) i fresh of n);
    jobs = λ k. IfSome_then _ (i.jobs k) (λ r. later_job b.version at k r);
    reservations = each_insert_entry stamp_cmp stamp_total exact_stamp (IsKnownReservation (raised b.version at)) b.reservations id _ (λ k. IfSome_then _ (i.reservations k) (λ r. later_reservation b.version at k r)) (changed_known_reservation (body_of op) of n);
  }

-- a range that is retired
module _ (b : BoardValue) (at : StampValue) (range : Range) (i : IsBoard b) (small : at.site < 16) (seen : covers (raised b.version at) at ≡ true) where
  pub changed_ranges_keeps : 1 ≤ range.first → range.first ≤ range.last → range.last < at.counter → IsBoard (changed_ranges b at range)
  changed_ranges_keeps low some given = record {
    retired = known_added b.version at range small seen low some given b.retired i.retired;
    jobs = each_dropped (IsKnownJob (raised b.version at)) (has_retired (with_more_retired b at range)) b.jobs (λ k. IfSome_then _ (i.jobs k) (λ r. later_job b.version at k r));
    reservations = each_dropped (IsKnownReservation (raised b.version at)) (has_retired (with_more_retired b at range)) b.reservations (λ k. IfSome_then _ (i.reservations k) (λ r. later_reservation b.version at k r));
    kept_jobs = kept_dropped (with_more_retired b at range) b.jobs;
    kept_reservations = kept_dropped (with_more_retired b at range) b.reservations;
  }

-- ---- two boards merged
module _ (join : JobRecordValue → List ℕ → JobRecordValue → List ℕ → JobRecordValue)
    (law : (r q : JobRecordValue) (v w : List ℕ) → job_reads (join r v q w) ≡ join_jobs v (job_reads r) w (job_reads q)) where
  pub join_touched : (r q : JobRecordValue) (v w : List ℕ) → (join r v q w).touched ≡ joined r.touched q.touched
  unfolding join_jobs
  join_touched r q v w = ap (λ (j : JobView). j.touched) (law r q v w)

  pub joined_known : (v w : List ℕ) (job : StampValue) (x y : Option JobRecordValue) → IfSome x (IsKnownJob v job) → IfSome y (IsKnownJob w job) → (is_some x || is_some y) ≡ true
      → IsKnownJob (joined v w) job (join (unwrap_or x no_operation) v (unwrap_or y no_operation) w)
  joined_known v w job x y p q e =
      let r : JobRecordValue = unwrap_or x no_operation in
      let s : JobRecordValue = unwrap_or y no_operation in
      let below = subst (λ t. is_below t (joined v w) ≡ true) (sym (join_touched r s v w)) (joined_below r.touched s.touched v w (touched_below v job x p) (touched_below w job y q)) in
      let stamps = subst IsCoveredJob (sym (law r s v w)) (covered_joined v w (job_reads r) (job_reads s) (stamps_covered v job x p) (stamps_covered w job y q)) in
      either x y p q e below stamps where
        either : (x y : Option JobRecordValue) → IfSome x (IsKnownJob v job) → IfSome y (IsKnownJob w job) → (is_some x || is_some y) ≡ true
            → is_below (join (unwrap_or x no_operation) v (unwrap_or y no_operation) w).touched (joined v w) ≡ true
            → IsCoveredJob (job_reads (join (unwrap_or x no_operation) v (unwrap_or y no_operation) w))
            → IsKnownJob (joined v w) job (join (unwrap_or x no_operation) v (unwrap_or y no_operation) w)
        either None None p q e below stamps = cc
        either None (Some s) p q e below stamps = record {
          placed = q.placed;
          named = covers_more w (joined v w) job (below_joined_right v w) q.named;
          submitted = ap is_submitted (law no_operation s v w) ∙ submitted_right v w (job_reads no_operation) (job_reads s) q.submitted;
          touched = below;
          stamps = stamps;
        }
        either (Some r) y p q e below stamps = record {
          placed = p.placed;
          named = covers_more v (joined v w) job (below_joined_left v w) p.named;
          submitted = ap is_submitted (law r (unwrap_or y no_operation) v w) ∙ submitted_left v w (job_reads r) (job_reads (unwrap_or y no_operation)) p.submitted;
          touched = below;
          stamps = stamps;
        }

  pub joined_known_reservation : (v w : List ℕ) (id : StampValue) (x y : Option ReservationView) → IfSome x (IsKnownReservation v id) → IfSome y (IsKnownReservation w id) → (is_some x || is_some y) ≡ true
      → IsKnownReservation (joined v w) id (joined_registers option_window_cmp (unwrap_or x None) (unwrap_or y None))
  joined_known_reservation v w id x y p q e =
      let left = later_covered latest_stamp v (joined v w) (λ t. covers_more v (joined v w) t (below_joined_left v w)) (unwrap_or x None) (covered_reservation v id x p) in
      let right = later_covered latest_stamp w (joined v w) (λ t. covers_more w (joined v w) t (below_joined_right v w)) (unwrap_or y None) (covered_reservation w id y q) in
      either x y p q e (register_covered (joined v w) option_window_cmp (unwrap_or x None) (unwrap_or y None) left right) where
        either : (x y : Option ReservationView) → IfSome x (IsKnownReservation v id) → IfSome y (IsKnownReservation w id) → (is_some x || is_some y) ≡ true
            → covers_register (joined v w) (joined_registers option_window_cmp (unwrap_or x None) (unwrap_or y None)) ≡ true
            → IsKnownReservation (joined v w) id (joined_registers option_window_cmp (unwrap_or x None) (unwrap_or y None))
        either None None p q e stamp = cc
        either None (Some s) p q e stamp = record {
          placed = q.placed;
          named = covers_more w (joined v w) id (below_joined_right v w) q.named;
          made = set_right option_window_cmp None s q.made;
          stamp = stamp;
        }
        either (Some r) y p q e stamp = record {
          placed = p.placed;
          named = covers_more v (joined v w) id (below_joined_left v w) p.named;
          made = set_left option_window_cmp r (unwrap_or y None) p.made;
          stamp = stamp;
        }

  pub merged_keeps : (b c : BoardValue) → IsBoard b → IsBoard c → IsBoard (merged join b c)
  merged_keeps b c i k =
      let version : List ℕ = joined b.version c.version in
      let tables = each_joined_tables stamp_cmp stamp_total exact_stamp no_operation join (IsKnownJob version) b.jobs c.jobs b.version c.version
      (λ id. joined_known b.version c.version id (lookup (is_at (stamp_cmp id)) b.jobs) (lookup (is_at (stamp_cmp id)) c.jobs) (i.jobs id) (k.jobs id)) in
      let windows = each_joined_tables stamp_cmp stamp_total exact_stamp None (λ x v y w. joined_registers option_window_cmp x y) (IsKnownReservation version) b.reservations c.reservations b.version c.version
      (λ id. joined_known_reservation b.version c.version id (lookup (is_at (stamp_cmp id)) b.reservations) (lookup (is_at (stamp_cmp id)) c.reservations) (i.reservations id) (k.reservations id)) in
      record {
        retired = known_tables b.version c.version b.retired c.retired i.retired k.retired;
        jobs = each_dropped (IsKnownJob version) (has_retired (joined_retired b c)) _ tables;
        reservations = each_dropped (IsKnownReservation version) (has_retired (joined_retired b c)) _ windows;
        kept_jobs = kept_dropped (joined_retired b c) _;
        kept_reservations = kept_dropped (joined_retired b c) _;
      }

-- ---- every job on a board is submitted, and every reservation is made
pub submitted_values : (v : List ℕ) (es : List (StampValue × JobRecordValue)) → IsStrictlySortedBy stamp_cmp (keys_of es) → IsAtEach stamp_cmp (IsKnownJob v) es → All (λ r. is_submitted (job_reads r) ≡ true) (values_of es)
submitted_values v es s p = values_each stamp_cmp stamp_total exact_stamp (λ r. is_submitted (job_reads r) ≡ true) es s (λ k. IfSome_then _ (p k) (λ (r : JobRecordValue) (i : IsKnownJob v k r). i.submitted))

pub made_values : (v : List ℕ) (es : List (StampValue × ReservationView)) → IsStrictlySortedBy stamp_cmp (keys_of es) → IsAtEach stamp_cmp (IsKnownReservation v) es → All IsSome (values_of es)
made_values v es s p = values_each stamp_cmp stamp_total exact_stamp IsSome es s (λ k. IfSome_then _ (p k) (λ (r : ReservationView) (i : IsKnownReservation v k r). i.made))
