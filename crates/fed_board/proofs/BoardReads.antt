-- What boards read as after a change and merged, and that what holds of every board is kept.
use Rattle.std.specs.Ordering.{is_eq}
use Rattle.std.specs.Cmp.{both_ways}
use Rattle.std.specs.Prelude.{if◌then◌else◌}
use Rattle.std.proofs.Common.{◌≡◌, ℕ, ◌<◌, ◌≤◌, List, Bool, true, false, ◌||◌, cond, Option, Some, None, refl, sym, ap, ap₂, subst, ◌∙◌}
use Rattle.std.proofs.lemmas.Cmp.{tied_itself}
use Rattle.std.proofs.lemmas.Map.Views.{tells_apart}
use Rattle.fed_stamp.specs.Stamp.{StampValue, same_stamp}
use Rattle.fed_stamp.specs.Version.{joined, raised}
use Rattle.fed_lattice.specs.ExactLaws.{exact_stamp, same_stamp_is, same_stamp_itself}
use Rattle.fed_lattice.specs.Latest.{stamp_cmp}
use Rattle.fed_lattice.specs.LatestLaws.{stamp_total}
use Rattle.fed_lattice.specs.Laws.{BottomsJoin}
use Rattle.fed_lattice.specs.Register.{joined_registers}
use Rattle.fed_lattice.specs.Stamped.{with_stamp}
use Rattle.fed_lattice.specs.Table.{value_at, joined_tables}
use Rattle.fed_lattice.proofs.TableValues.{value_at-insert_entry, value_at-joined_tables}
use Rattle.fed_record.specs.declared.operations.Operation.{Operation}
use Rattle.fed_model.specs.Body.{Body, Body.Submit, Body.OfJob, Body.Reserve, Body.Cancel, Body.Retire, job_of, reservation_of, is_this, is_of_job, is_of_reservation}
use Rattle.fed_model.specs.Field.{window_in}
use Rattle.fed_record.specs.JobRecord.{JobRecordValue, job_reads}
use Rattle.fed_theory.specs.JobSteps.{add_to_job, join_jobs}
use Rattle.fed_model.specs.JobView.{JobView}
use Rattle.fed_record.specs.Operation.{body_of}
use Rattle.fed_model.specs.Reservation.{ReservationView}
use Rattle.fed_theory.specs.ValueOrders.{option_window_cmp}
use Rattle.fed_model.specs.JobView.{unknown}
use Rattle.fed_model.specs.Retired.{retires, is_retire}
use Rattle.fed_ranges.specs.declared.ranges.Range.{Range}
use Rattle.fed_ranges.specs.Dropped.{dropped}
use Rattle.fed_ranges.specs.Retired.{RetiredValue, has_retired, latest_retires}
use Rattle.fed_board.specs.Board.{BoardValue, AreKept, no_operation, board_reads, merged, joined_retired}
use Rattle.fed_board.proofs.ChangedBoards.{changed_job, changed_reservation, changed_ranges, with_more_retired}
use Rattle.fed_board.proofs.DroppedTables.{value_dropped, value_kept}
use Rattle.fed_board.proofs.RetiredTables.{AreAllApart, at_tables, has_joined, latest_joined, has_added, latest_added}
use Rattle.fed_theory.specs.ViewSteps.{add_to_view, join_views}

-- ---- identifiers
stamp_at_id : (id s : StampValue) → is_eq (stamp_cmp id s) ≡ same_stamp s id
stamp_at_id id s = both_ways _ _
    (λ e. subst (λ (t : StampValue). same_stamp t id ≡ true) (tells_apart exact_stamp id s e) (same_stamp_itself id))
    (λ e. subst (λ (t : StampValue). is_eq (stamp_cmp t s) ≡ true) (same_stamp_is s id e) (ap is_eq (tied_itself stamp_total s)))

not_reservation : (at : StampValue) (b : Body) (job : StampValue) → job_of at b ≡ Some job → reservation_of at b ≡ None
not_reservation at (Submit owner values held) job e = refl
not_reservation at (OfJob other what) job e = refl
not_reservation at (Reserve window) job e = cc
not_reservation at (Cancel id) job e = cc
not_reservation at (Retire first last) job e = cc

not_job : (at : StampValue) (b : Body) (id : StampValue) → reservation_of at b ≡ Some id → job_of at b ≡ None
not_job at (Submit owner values held) id e = cc
not_job at (OfJob job what) id e = cc
not_job at (Reserve window) id e = refl
not_job at (Cancel other) id e = refl
not_job at (Retire first last) id e = cc

-- an operation of a job or of a reservation retires nothing
job_retires : (at : StampValue) (b : Body) (job : StampValue) → job_of at b ≡ Some job → (is_retire (at, b) ≡ false) × ((id : StampValue) → retires id (at, b) ≡ false)
job_retires at (Submit owner values held) job e = (refl, λ id. refl)
job_retires at (OfJob other what) job e = (refl, λ id. refl)
job_retires at (Reserve window) job e = cc
job_retires at (Cancel id) job e = cc
job_retires at (Retire first last) job e = cc

reservation_retires : (at : StampValue) (b : Body) (id : StampValue) → reservation_of at b ≡ Some id → (is_retire (at, b) ≡ false) × ((k : StampValue) → retires k (at, b) ≡ false)
reservation_retires at (Submit owner values held) id e = cc
reservation_retires at (OfJob job what) id e = cc
reservation_retires at (Reserve window) id e = (refl, λ k. refl)
reservation_retires at (Cancel other) id e = (refl, λ k. refl)
reservation_retires at (Retire first last) id e = cc

or_quiet : (a b : Bool) → b ≡ false → a ≡ (a || b)
or_quiet true b e = refl
or_quiet false b e = sym e

-- ---- what is not there
unread : (es : List (StampValue × JobRecordValue)) (id : StampValue) (b : Bool) → job_reads (if b then no_operation else value_at stamp_cmp no_operation es id) ≡ (if b then unknown else job_reads (value_at stamp_cmp no_operation es id))
unread es id true = refl
unread es id false = refl

kept_record : (r : RetiredValue) (es : List (StampValue × JobRecordValue)) → AreKept r es → (id : StampValue) → job_reads (value_at stamp_cmp no_operation es id) ≡ (if has_retired r id then unknown else job_reads (value_at stamp_cmp no_operation es id))
kept_record r es k id = ap job_reads (value_kept no_operation r es k id) ∙ unread es id (has_retired r id)

pub read_dropped : (gone : StampValue → Bool) (es : List (StampValue × JobRecordValue)) (id : StampValue) → job_reads (value_at stamp_cmp no_operation (dropped gone es) id) ≡ (if gone id then unknown else job_reads (value_at stamp_cmp no_operation es id))
read_dropped gone es id = ap job_reads (value_dropped no_operation gone es id) ∙ unread es id (gone id)

-- ---- a change of one job
module _ (applied : JobRecordValue → StampValue → Operation → JobRecordValue)
    (law : (r : JobRecordValue) (s : StampValue) (c : Operation) → job_reads (applied r s c) ≡ add_to_job s (body_of c) (job_reads r))
    (b : BoardValue) (at : StampValue) (op : Operation) (job : StampValue) where
  abbrev old_job : StampValue → JobRecordValue
  old_job id = value_at stamp_cmp no_operation b.jobs id

  module _ (of : job_of at (body_of op) ≡ Some job) where
    abbrev added : Bool → StampValue → JobView
    added t id = if t then add_to_job at (body_of op) (job_reads (old_job id)) else job_reads (old_job id)

    changed_job_read : (id : StampValue) → job_reads (value_at stamp_cmp no_operation (changed_job applied b at op job).jobs id) ≡ added (is_of_job id (at, body_of op)) id
    changed_job_read id =
        ap job_reads (value_at-insert_entry stamp_cmp stamp_total exact_stamp no_operation id job (applied (old_job job) at op) b.jobs)
        ∙ go (is_eq (stamp_cmp id job)) refl
        ∙ ap (λ t. added t id) (stamp_at_id id job ∙ ap (is_this id) (sym of))
      where
        go : (t : Bool) → is_eq (stamp_cmp id job) ≡ t → job_reads (cond t (applied (old_job job) at op) (old_job id)) ≡ added t id
        go true e = law (old_job job) at op ∙ ap (λ (n : StampValue). add_to_job at (body_of op) (job_reads (old_job n))) (sym (tells_apart exact_stamp id job e))
        go false e = refl

    abbrev unmade : Option StampValue → StampValue → ReservationView
    unmade r id = if is_this id r then joined_registers option_window_cmp (value_at stamp_cmp None b.reservations id) (with_stamp at (window_in (body_of op))) else value_at stamp_cmp None b.reservations id

    pub changed_job_reads : AreKept b.retired (changed_job applied b at op job).jobs → AreKept b.retired b.reservations → board_reads (changed_job applied b at op job) ≡ add_to_view (board_reads b) (at, body_of op)
    unfolding add_to_view
    changed_job_reads kept windows =
        let none = sym (not_reservation at (body_of op) job of) in
        let retire = job_retires at (body_of op) job of in
        let quiet : (id : StampValue) → has_retired b.retired id ≡ (has_retired b.retired id || retires id (at, body_of op)) = λ id. or_quiet (has_retired b.retired id) (retires id (at, body_of op)) (retire.1 id) in
        let latest : latest_retires b.retired ≡ (if is_retire (at, body_of op) then raised (latest_retires b.retired) at else latest_retires b.retired) =
        ap (λ t. if t then raised (latest_retires b.retired) at else latest_retires b.retired) (sym retire.0) in
        let read : (id : StampValue) → job_reads (value_at stamp_cmp no_operation (changed_job applied b at op job).jobs id) ≡ (if has_retired b.retired id || retires id (at, body_of op) then unknown else added (is_of_job id (at, body_of op)) id) =
        λ id. kept_record b.retired (changed_job applied b at op job).jobs kept id ∙ (λ i. if quiet id i then unknown else changed_job_read id i) in
        let window : (id : StampValue) → value_at stamp_cmp None b.reservations id ≡ (if has_retired b.retired id || retires id (at, body_of op) then None else unmade (reservation_of at (body_of op)) id) =
        λ id. value_kept None b.retired b.reservations windows id ∙ (λ i. if quiet id i then None else unmade (none i) id) in
        λ i. record {
          version = raised b.version at;
          retirements = latest i;
          retired = λ id. quiet id i;
          job = λ id. read id i;
          reservation = λ id. window id i;
        }

-- ---- a change of one reservation
module _ (b : BoardValue) (at : StampValue) (op : Operation) (id : StampValue) where
  abbrev old_reservation : StampValue → ReservationView
  old_reservation other = value_at stamp_cmp None b.reservations other

  abbrev set_reservation : ReservationView → ReservationView
  set_reservation r = joined_registers option_window_cmp r (with_stamp at (window_in (body_of op)))

  module _ (of : reservation_of at (body_of op) ≡ Some id) where
    abbrev changed_at : Bool → StampValue → ReservationView
    changed_at t other = if t then set_reservation (old_reservation other) else old_reservation other

    reservation_reads : (other : StampValue) → value_at stamp_cmp None (changed_reservation b at op id).reservations other ≡ changed_at (is_of_reservation other (at, body_of op)) other
    reservation_reads other =
        value_at-insert_entry stamp_cmp stamp_total exact_stamp None other id (set_reservation (old_reservation id)) b.reservations
        ∙ go (is_eq (stamp_cmp other id)) refl
        ∙ ap (λ t. changed_at t other) (stamp_at_id other id ∙ ap (is_this other) (sym of))
      where
        go : (t : Bool) → is_eq (stamp_cmp other id) ≡ t → cond t (set_reservation (old_reservation id)) (old_reservation other) ≡ changed_at t other
        go true e = ap (λ (n : StampValue). set_reservation (old_reservation n)) (sym (tells_apart exact_stamp other id e))
        go false e = refl

    abbrev unnamed : Option StampValue → StampValue → JobView
    unnamed j job = if is_this job j then add_to_job at (body_of op) (job_reads (value_at stamp_cmp no_operation b.jobs job)) else job_reads (value_at stamp_cmp no_operation b.jobs job)

    pub changed_reservation_reads : AreKept b.retired b.jobs → AreKept b.retired (changed_reservation b at op id).reservations → board_reads (changed_reservation b at op id) ≡ add_to_view (board_reads b) (at, body_of op)
    unfolding add_to_view
    changed_reservation_reads jobs kept =
        let none = sym (not_job at (body_of op) id of) in
        let retire = reservation_retires at (body_of op) id of in
        let quiet : (k : StampValue) → has_retired b.retired k ≡ (has_retired b.retired k || retires k (at, body_of op)) = λ k. or_quiet (has_retired b.retired k) (retires k (at, body_of op)) (retire.1 k) in
        let latest : latest_retires b.retired ≡ (if is_retire (at, body_of op) then raised (latest_retires b.retired) at else latest_retires b.retired) =
        ap (λ t. if t then raised (latest_retires b.retired) at else latest_retires b.retired) (sym retire.0) in
        let read : (job : StampValue) → job_reads (value_at stamp_cmp no_operation b.jobs job) ≡ (if has_retired b.retired job || retires job (at, body_of op) then unknown else unnamed (job_of at (body_of op)) job) =
        λ job. kept_record b.retired b.jobs jobs job ∙ (λ i. if quiet job i then unknown else unnamed (none i) job) in
        let window : (other : StampValue) → value_at stamp_cmp None (changed_reservation b at op id).reservations other ≡ (if has_retired b.retired other || retires other (at, body_of op) then None else changed_at (is_of_reservation other (at, body_of op)) other) =
        λ other. value_kept None b.retired (changed_reservation b at op id).reservations kept other ∙ (λ i. if quiet other i then None else reservation_reads other i) in
        λ i. record {
          version = raised b.version at;
          retirements = latest i;
          retired = λ k. quiet k i;
          job = λ job. read job i;
          reservation = λ other. window other i;
        }

-- ---- a range that is retired
module _ (b : BoardValue) (at : StampValue) (range : Range) where
  pub changed_ranges_read : AreAllApart b.retired → at.site < 16 → range.first ≤ range.last → board_reads (changed_ranges b at range) ≡ add_to_view (board_reads b) (at, Retire range.first range.last)
  unfolding add_to_view
  changed_ranges_read apart small some =
      let more : RetiredValue = with_more_retired b at range in
      let gone : (id : StampValue) → has_retired more id ≡ (has_retired b.retired id || retires id (at, Retire range.first range.last)) = has_added b.retired at range some apart in
      let latest : latest_retires more ≡ raised (latest_retires b.retired) at = latest_added b.retired at range small in
      let read : (id : StampValue) → job_reads (value_at stamp_cmp no_operation (dropped (has_retired more) b.jobs) id)
      ≡ (if has_retired b.retired id || retires id (at, Retire range.first range.last) then unknown else job_reads (value_at stamp_cmp no_operation b.jobs id)) =
      λ id. read_dropped (has_retired more) b.jobs id ∙ (λ i. if gone id i then unknown else job_reads (value_at stamp_cmp no_operation b.jobs id)) in
      let window : (id : StampValue) → value_at stamp_cmp None (dropped (has_retired more) b.reservations) id
      ≡ (if has_retired b.retired id || retires id (at, Retire range.first range.last) then None else value_at stamp_cmp None b.reservations id) =
      λ id. value_dropped None (has_retired more) b.reservations id ∙ (λ i. if gone id i then None else value_at stamp_cmp None b.reservations id) in
      λ i. record {
        version = raised b.version at;
        retirements = latest i;
        retired = λ id. gone id i;
        job = λ id. read id i;
        reservation = λ id. window id i;
      }

-- ---- two boards merged
module _ (join : JobRecordValue → List ℕ → JobRecordValue → List ℕ → JobRecordValue)
    (law : (r q : JobRecordValue) (v w : List ℕ) → job_reads (join r v q w) ≡ join_jobs v (job_reads r) w (job_reads q)) where
  pub merged_same : (b c now other : BoardValue) → b ≡ now → c ≡ other → merged join b c ≡ merged join now other
  merged_same b c now other e f = ap₂ (merged join) e f

  pub merged_reads : BottomsJoin no_operation join → (b c : BoardValue) → AreAllApart b.retired → AreAllApart c.retired → board_reads (merged join b c) ≡ join_views (board_reads b) (board_reads c)
  unfolding join_views
  merged_reads bottoms b c p q =
      let all : RetiredValue = joined_retired b c in
      let at = at_tables b.retired c.retired b.version c.version in
      let gone : (id : StampValue) → has_retired all id ≡ (has_retired b.retired id || has_retired c.retired id) = has_joined b.retired c.retired b.version c.version all at p q in
      let latest : latest_retires all ≡ joined (latest_retires b.retired) (latest_retires c.retired) = latest_joined b.retired c.retired b.version c.version all at in
      let tables : List (StampValue × JobRecordValue) = joined_tables stamp_cmp no_operation join b.jobs b.version c.jobs c.version in
      let joined_job : (id : StampValue) → job_reads (value_at stamp_cmp no_operation tables id) ≡ join_jobs b.version (job_reads (value_at stamp_cmp no_operation b.jobs id)) c.version (job_reads (value_at stamp_cmp no_operation c.jobs id)) =
      λ id. ap job_reads (value_at-joined_tables stamp_cmp stamp_total exact_stamp no_operation join bottoms id b.jobs c.jobs b.version c.version) ∙ law _ _ b.version c.version in
      let job : (id : StampValue) → job_reads (value_at stamp_cmp no_operation (dropped (has_retired all) tables) id)
      ≡ (if has_retired b.retired id || has_retired c.retired id then unknown else join_jobs b.version (job_reads (value_at stamp_cmp no_operation b.jobs id)) c.version (job_reads (value_at stamp_cmp no_operation c.jobs id))) =
      λ id. read_dropped (has_retired all) tables id ∙ (λ i. if gone id i then unknown else joined_job id i) in
      let windows : List (StampValue × ReservationView) = joined_tables stamp_cmp None (λ x v y w. joined_registers option_window_cmp x y) b.reservations b.version c.reservations c.version in
      let joined_window : (id : StampValue) → value_at stamp_cmp None windows id ≡ joined_registers option_window_cmp (value_at stamp_cmp None b.reservations id) (value_at stamp_cmp None c.reservations id) =
      λ id. value_at-joined_tables stamp_cmp stamp_total exact_stamp None (λ x v y w. joined_registers option_window_cmp x y) (λ v w. refl) id b.reservations c.reservations b.version c.version in
      let reservation : (id : StampValue) → value_at stamp_cmp None (dropped (has_retired all) windows) id
      ≡ (if has_retired b.retired id || has_retired c.retired id then None else joined_registers option_window_cmp (value_at stamp_cmp None b.reservations id) (value_at stamp_cmp None c.reservations id)) =
      λ id. value_dropped None (has_retired all) windows id ∙ (λ i. if gone id i then None else joined_window id i) in
      λ i. record {
        version = joined b.version c.version;
        retirements = latest i;
        retired = λ id. gone id i;
        job = λ id. job id i;
        reservation = λ id. reservation id i;
      }
