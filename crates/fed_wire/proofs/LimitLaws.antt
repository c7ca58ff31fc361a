-- What a board tells that stands for a set within limits is a packet within limits.
use Rattle.std.specs.Prelude.{filter, is_some, IfSome}
use Rattle.std.specs.BTreeMap.{is_at}
use Rattle.std.specs.Cmp.{nat_cmp_total}
use Rattle.std.specs.List.{AllByRecursion}
use Rattle.std.specs.List.Sorted.{IsStrictlySortedBy}
use Rattle.std.specs.Map.{keys_of, values_of, lookup}
use Rattle.std.specs.Ordering.{nat_cmp}
use Rattle.std.proofs.Common.{◌≡◌, ◌==◌, ◌≤◌, ◌<◌, ◌+◌, ◌&&◌, ℕ, List, [], ◌∷◌, Bool, true, false, cond, All, Option, Some, None, unwrap_or, refl, sym, ap, subst, ◌∙◌, arith, inl, inr}
use Rattle.std.proofs.lemmas.Bool.{and_parts, and_from}
use Rattle.std.proofs.lemmas.List.Elements.{All-head, All-tail}
use Rattle.std.proofs.lemmas.Map.Lookups.{exact_unsigned}
use Rattle.std.proofs.lemmas.Map.Views.{IfSome-lookup_from_All}
use Rattle.fed_stamp.specs.Stamp.{StampValue}
use Rattle.fed_stamp.specs.Version.{covers, met, is_below, IsVersion as IsAVersion}
use Rattle.fed_stamp.specs.declared.stamps.TheConstants.{MAX_COUNTER}
use Rattle.fed_stamp.proofs.VersionLaws.{met_below_right}
use Rattle.fed_lattice.specs.Latest.{stamp_cmp}
use Rattle.fed_lattice.specs.History.{History}
use Rattle.fed_lattice.specs.Sets.{Has}
use Rattle.fed_lattice.specs.VersionOf.{version_of}
use Rattle.fed_lattice.proofs.FilterLaws.{Has-filter, filter-Has}
use Rattle.fed_lattice.proofs.VersionOfLaws.{version_of-covers}
use Rattle.fed_tags.specs.Tags.{pair_cmp}
use Rattle.fed_tags.specs.TagLaws.{pair_total, exact_pair, has_member}
use Rattle.fed_stamp.specs.declared.rosters.TheConstants.{MAX_NODES}
use Rattle.fed_model.specs.declared.limits.TheConstants.{MAX_LIMIT}
use Rattle.fed_model.specs.Body.{Body, Body.Submit, Body.Reserve, is_of_job, of_job, is_of_reservation, of_reservation}
use Rattle.fed_model.specs.Field.{owner_in, name_in, priority_in, nodes_in, limit_in, account_in, window_in, field}
use Rattle.fed_model.specs.Hold.{kind_cmp}
use Rattle.fed_model.specs.HoldLaws.{kind_total, exact_kind}
use Rattle.fed_record.specs.JobRecord.{JobRecordValue, job_reads}
use Rattle.fed_model.specs.JobView.{JobView, job_view, unknown}
use Rattle.fed_model.specs.Letter.{is_submitted}
use Rattle.fed_model.specs.Pairs.{adds_site, removes_site, adds_hold, removes_hold}
use Rattle.fed_model.specs.Reservation.{ReservationView, reservation_view}
use Rattle.fed_lattice.specs.ExactLaws.{same_stamp_itself}
use Rattle.fed_board.specs.Board.{BoardValue, IsBoard, IsKnownJob, IsKnownReservation, no_operation, board_reads}
use Rattle.fed_board.specs.Counts.{ids_of}
use Rattle.fed_model.specs.Lawful.{IsLawful}
use Rattle.fed_model.specs.Identifiers.{covered_stamps, jobs_in, reservations_in}
use Rattle.fed_model.specs.View.{View, view, HasSubmit, HasReserve}
use Rattle.fed_model.specs.declared.capacities.TheConstants.{MAX_JOBS, MAX_RESERVATIONS}
use Rattle.fed_board.proofs.CountLaws.{ids-push}
use Rattle.fed_theory.proofs.SubmitLaws.{submit_of, unretired, read_whole, reserve_of, standing_whole, reservation_whole}
use Rattle.fed_theory.specs.Cut.{cut, is_changed_job, is_changed_reservation}
use Rattle.fed_model.specs.Ranges.{IsFrom, IsName, IsPriority, IsAccount, IsSite, IsInRange, IsWindow}
use Rattle.fed_job_json.specs.declared.formats.Format.TheVariants.{Two}
use Rattle.fed_record.specs.CoveredJob.{covers_register}
use Rattle.fed_job_json.specs.Covers.{covers_pairs, covers_job}
use Rattle.fed_job_json.specs.Fields.{IsField}
use Rattle.fed_job_json.specs.Job.{IsJob, IsJobIn}
use Rattle.fed_job_json.specs.Stamps.{IsVersion}
use Rattle.fed_model.specs.Limits.{IsWithinLimits}
use Rattle.fed_board.proofs.CountedIdentifiers.{set_jobs_counted, set_reservations_counted}
use Rattle.fed_board.proofs.BoardReadings.{HasSortedTags}
use Rattle.fed_wire.specs.Packet.{IsPacket, job_stands, reservation_stands, covers_window}
use Rattle.fed_delta.specs.Packet.{PacketValue}
use Rattle.fed_wire.specs.Reservations.{IsReservation}
use Rattle.fed_wire.proofs.RangeLaws.{owner_ranged, name_ranged, priority_ranged, nodes_ranged, limit_ranged, account_ranged, window_ranged, added_site, set_field, grant_is, version_is, pairs_are, progress_is, of_all}
use Rattle.fed_wire.proofs.RetiredLimits.{each_entry, weaker, known_at, retired_ranged, retired_stand}
use Rattle.fed_wire.proofs.StandingLaws.{all_stand}

-- ---- stamps that are covered, by the tests of packets

pairs_covered : {E : Type 0} (v : List ℕ) (ps : List (E × StampValue)) → ((p : E × StampValue) → Has ps p → covers v p.1 ≡ true) → covers_pairs v ps ≡ true
pairs_covered v [] f = refl
pairs_covered v (p ∷ ps) f = and_from _ _ (f p (inl refl)) (pairs_covered v ps (λ q h. f q (inr h)))

-- ---- one job
module _ (ops : History Body) (lawful : IsLawful ops) (within : IsWithinLimits ops) (reached : List ℕ) (job : StampValue) (r : JobRecordValue)
    (known : IsKnownJob reached job r) (seen : job_reads r ≡ (view ops).job job)
    (holds_sorted : IsStrictlySortedBy (pair_cmp kind_cmp) r.holds) (sites_sorted : IsStrictlySortedBy (pair_cmp nat_cmp) r.sites) where
  abbrev mine : History Body
  mine = of_job job ops

  has_mine : (o : StampValue × Body) → Has mine o → Has ops o
  has_mine = of_all ops lawful within job

  read : is_submitted ((view ops).job job) ≡ true
  read = sym (ap is_submitted seen) ∙ known.submitted

  submitted : HasSubmit ops job
  submitted = submit_of ops job read

  -- it is not retired, so it is read of all its operations
  e : job_reads r ≡ job_view mine
  e = seen ∙ read_whole ops job (unretired ops job read)

  field_is : {T : Type 0} (says : Body → Option T) (P : T → Type 0) → ((body : Body) → IsInRange body → IfSome (says body) P) → (o : Option (StampValue × T)) → o ≡ field says mine → is_some o ≡ true → IsField P o
  field_is says P law o same s = set_field mine ops within has_mine says P law o (sym same) s

  name_covered : covers r.touched job ≡ true
  name_covered = subst (λ v. covers v job ≡ true) (sym (ap (λ (j : JobView). j.touched) e))
      (version_of-covers mine (λ o h. lawful.sites o (has_mine o h)) (job, Submit submitted.0 submitted.1 submitted.2)
      (filter-Has (is_of_job job) ops (job, Submit submitted.0 submitted.1 submitted.2) submitted.3 (same_stamp_itself job)))

  stamps_covered : covers_job (job, r) ≡ true
  stamps_covered =
      let k = known.stamps in
      let pairs = and_from _ _
      (pairs_covered r.touched r.holds (λ p h. k.holds p.0 p.1 (has_member (pair_cmp kind_cmp) (pair_total kind_cmp kind_total) (exact_pair kind_cmp exact_kind) p r.holds h)))
      (pairs_covered r.touched r.sites (λ p h. k.sites p.0 p.1 (has_member (pair_cmp nat_cmp) (pair_total nat_cmp nat_cmp_total) (exact_pair nat_cmp exact_unsigned) p r.sites h))) in
      and_from _ _ (and_from _ _ name_covered pairs) k.stamps

  pub job_is : IsJobIn Two job r
  job_is =
      let a = and_parts (is_some r.fields.owner) _ known.submitted in
      let b = and_parts (is_some r.fields.name) _ a.1 in
      let c = and_parts (is_some r.fields.priority) _ b.1 in
      let d = and_parts (is_some r.fields.nodes) _ c.1 in
      let f = and_parts (is_some r.fields.limit) (is_some r.fields.account) d.1 in record {
        id = within.stamps (job, Submit submitted.0 submitted.1 submitted.2) submitted.3;
        owner = field_is owner_in IsName owner_ranged r.fields.owner (ap (λ (j : JobView). j.fields.owner) e) a.0;
        name = field_is name_in IsName name_ranged r.fields.name (ap (λ (j : JobView). j.fields.name) e) b.0;
        priority = field_is priority_in IsPriority priority_ranged r.fields.priority (ap (λ (j : JobView). j.fields.priority) e) c.0;
        nodes = field_is nodes_in (IsFrom 1 MAX_NODES) nodes_ranged r.fields.nodes (ap (λ (j : JobView). j.fields.nodes) e) d.0;
        limit = field_is limit_in (IsFrom 1 MAX_LIMIT) limit_ranged r.fields.limit (ap (λ (j : JobView). j.fields.limit) e) f.0;
        account = field_is account_in IsAccount account_ranged r.fields.account (ap (λ (j : JobView). j.fields.account) e) f.1;
        holds = pairs_are mine ops within has_mine adds_hold removes_hold (λ _. Unit {0}) (λ _ _ _. tt) kind_cmp kind_total exact_kind r.holds holds_sorted (λ kind tag. ap (λ (j : JobView). j.holds kind tag) e);
        sites = pairs_are mine ops within has_mine adds_site removes_site IsSite added_site nat_cmp nat_cmp_total exact_unsigned r.sites sites_sorted (λ site tag. ap (λ (j : JobView). j.sites site tag) e);
        grant = grant_is mine ops within has_mine r.stages.grant (sym (ap (λ (j : JobView). j.stages.grant) e));
        progress = progress_is ops lawful within job r.stages.begun r.stages.finished (sym (ap (λ (j : JobView). j.stages.begun) e)) (sym (ap (λ (j : JobView). j.stages.finished) e));
        touched = subst IsVersion (sym (ap (λ (j : JobView). j.touched) e)) (version_is mine ops within has_mine);
        covered = stamps_covered;
      }

-- ---- one reservation
module _ (ops : History Body) (lawful : IsLawful ops) (within : IsWithinLimits ops) (id : StampValue) (r : ReservationView) (made : is_some r ≡ true) (seen : r ≡ (view ops).reservation id) where
  abbrev its : History Body
  its = of_reservation id ops

  has_its : (o : StampValue × Body) → Has its o → Has ops o
  has_its o h = (Has-filter (is_of_reservation id) ops o h).0

  pub reservation_is : IsReservation (id, r)
  reservation_is =
      let read : is_some ((view ops).reservation id) ≡ true = sym (ap is_some seen) ∙ made in
      let reserve : HasReserve ops id = reserve_of ops id lawful read in
      let e : r ≡ reservation_view its = seen ∙ reservation_whole ops id (standing_whole ops id read).0 in
      (within.stamps (id, Reserve reserve.0) reserve.1, set_field its ops within has_its window_in (λ w. IfSome w IsWindow) window_ranged r (sym e) made)

-- ---- what a cut tells
cut_job : (v : View) (need : List ℕ) (job : StampValue) → (cut v need).job job ≡ cond (is_changed_job need (v.job job)) (v.job job) unknown
unfolding cut
cut_job v need job = refl

cut_reservation : (v : View) (need : List ℕ) (id : StampValue) → (cut v need).reservation id ≡ cond (is_changed_reservation need (v.reservation id)) (v.reservation id) None
unfolding cut
cut_reservation v need id = refl

cut_version : (v : View) (need : List ℕ) → (cut v need).version ≡ v.version
unfolding cut
cut_version v need = refl

job_told : (v : View) (need : List ℕ) (job : StampValue) (j : JobView) → j ≡ (cut v need).job job → is_submitted j ≡ true → j ≡ v.job job
job_told v need job j e s = go (is_changed_job need (v.job job)) (e ∙ cut_job v need job) where
  go : (b : Bool) → j ≡ cond b (v.job job) unknown → j ≡ v.job job
  go true same = same
  go false same = absurd (let f : false ≡ true = sym (ap is_submitted same) ∙ s in cc)

reservation_told : (v : View) (need : List ℕ) (id : StampValue) (r : ReservationView) → r ≡ (cut v need).reservation id → is_some r ≡ true → r ≡ v.reservation id
reservation_told v need id r e s = go (is_changed_reservation need (v.reservation id)) (e ∙ cut_reservation v need id) where
  go : (b : Bool) → r ≡ cond b (v.reservation id) None → r ≡ v.reservation id
  go true same = same
  go false same = absurd (let f : false ≡ true = sym (ap is_some same) ∙ s in cc)

-- of identifiers that pass a test there are no more than of those that pass a weaker one
fewer_kept : (p q : StampValue → Bool) → ((s : StampValue) → p s ≡ true → q s ≡ true) → (site : ℕ) (xs : List StampValue) → ids_of site (filter p xs) ≤ ids_of site (filter q xs)
fewer_kept p q weaker site [] = omega arith
fewer_kept p q weaker site (x ∷ xs) = go (p x) (q x) (weaker x) (fewer_kept p q weaker site xs) where
  go : (b c : Bool) → (b ≡ true → c ≡ true) → ids_of site (filter p xs) ≤ ids_of site (filter q xs)
      → ids_of site (cond b (x ∷ filter p xs) (filter p xs)) ≤ ids_of site (cond c (x ∷ filter q xs) (filter q xs))
  go true true w rest =
      let f : ids_of site (x ∷ filter p xs) ≡ cond (x.site == site) 1 0 + ids_of site (filter p xs) = ids-push site x (filter p xs) in
      let g : ids_of site (x ∷ filter q xs) ≡ cond (x.site == site) 1 0 + ids_of site (filter q xs) = ids-push site x (filter q xs) in
      omega (arith, f, g, rest)
  go true false w rest = absurd (let f : false ≡ true = w refl in cc)
  go false true w rest =
      let g : ids_of site (x ∷ filter q xs) ≡ cond (x.site == site) 1 0 + ids_of site (filter q xs) = ids-push site x (filter q xs) in
      omega (arith, g, rest)
  go false false w rest = rest

jobs_told : (v : View) (need : List ℕ) (site : ℕ) → ids_of site (jobs_in (cut v need)) ≤ ids_of site (jobs_in v)
jobs_told v need site = subst (λ w. ids_of site (filter (λ job. is_submitted ((cut v need).job job)) (covered_stamps w)) ≤ ids_of site (jobs_in v)) (sym (cut_version v need))
    (fewer_kept (λ job. is_submitted ((cut v need).job job)) (λ job. is_submitted (v.job job))
    (λ job s. sym (ap is_submitted (job_told v need job ((cut v need).job job) refl s)) ∙ s) site (covered_stamps v.version))

reservations_told : (v : View) (need : List ℕ) (site : ℕ) → ids_of site (reservations_in (cut v need)) ≤ ids_of site (reservations_in v)
reservations_told v need site = subst (λ w. ids_of site (filter (λ id. is_some ((cut v need).reservation id)) (covered_stamps w)) ≤ ids_of site (reservations_in v)) (sym (cut_version v need))
    (fewer_kept (λ id. is_some ((cut v need).reservation id)) (λ id. is_some (v.reservation id))
    (λ id s. sym (ap is_some (reservation_told v need id ((cut v need).reservation id) refl s)) ∙ s) site (covered_stamps v.version))

version_ranged : (v : List ℕ) → IsAVersion v → IsVersion v
version_ranged v h = (h.0, each v h.1) where
  each : (w : List ℕ) → All (λ c. c ≤ MAX_COUNTER) w → AllByRecursion (IsFrom 0 MAX_COUNTER) w
  each [] a = tt
  each (c ∷ w) a = ((omega arith, All-head (λ c. c ≤ MAX_COUNTER) c w a), each w (All-tail (λ c. c ≤ MAX_COUNTER) c w a))

-- ---- the packet
-- the pairs of each record strictly ascend
abbrev pub HaveSortedTags : List (StampValue × JobRecordValue) → Type 0
HaveSortedTags jobs = (job : StampValue) → IfSome (lookup (is_at (stamp_cmp job)) jobs) HasSortedTags

pub sorted_tags : (jobs : List (StampValue × JobRecordValue)) → All HasSortedTags (values_of jobs) → HaveSortedTags jobs
sorted_tags jobs h job = IfSome-lookup_from_All HasSortedTags (is_at (stamp_cmp job)) jobs h

-- what is known of every packet of a program
pub record IsMade (p : PacketValue) : Type 0 where
  pub sender : p.sender < 16
  pub need : IsAVersion p.delta.need
  pub reached : IsAVersion p.delta.changes.version
  pub board : IsBoard p.delta.changes
  pub jobs_ascend : IsStrictlySortedBy stamp_cmp (keys_of p.delta.changes.jobs)
  pub reservations_ascend : IsStrictlySortedBy stamp_cmp (keys_of p.delta.changes.reservations)
  pub jobs : keys_of p.delta.changes.jobs ≡ jobs_in (board_reads p.delta.changes)
  pub reservations : keys_of p.delta.changes.reservations ≡ reservations_in (board_reads p.delta.changes)
  pub tags : HaveSortedTags p.delta.changes.jobs
  pub sites : IsStrictlySortedBy nat_cmp (keys_of p.delta.changes.retired)

module _ (p : PacketValue) (made : IsMade p) (ops : History Body) (seen : List ℕ) (lawful : IsLawful ops) (within : IsWithinLimits ops)
    (needs : p.delta.need ≡ met seen (version_of ops)) (told : board_reads p.delta.changes ≡ cut (view ops) p.delta.need) where
  abbrev changes : BoardValue
  changes = p.delta.changes

  abbrev Found : {X : Type 0} → List (StampValue × X) → StampValue × X → Type 0
  Found {X} es e = lookup (is_at (stamp_cmp e.0)) es ≡ Some e.1

  known_job : (e : StampValue × JobRecordValue) → Found changes.jobs e → IsKnownJob changes.version e.0 e.1
  known_job e f = known_at (IsKnownJob changes.version e.0) _ e.1 f (made.board.jobs e.0)

  known_reservation : (e : StampValue × ReservationView) → Found changes.reservations e → IsKnownReservation changes.version e.0 e.1
  known_reservation e f = known_at (IsKnownReservation changes.version e.0) _ e.1 f (made.board.reservations e.0)

  job_view_is : (e : StampValue × JobRecordValue) → Found changes.jobs e → job_reads e.1 ≡ (view ops).job e.0
  job_view_is e f = job_told (view ops) p.delta.need e.0 (job_reads e.1)
      (ap (λ (o : Option JobRecordValue). job_reads (unwrap_or o no_operation)) (sym f) ∙ ap (λ (v : View). v.job e.0) told) (known_job e f).submitted

  reservation_view_is : (e : StampValue × ReservationView) → Found changes.reservations e → e.1 ≡ (view ops).reservation e.0
  reservation_view_is e f = reservation_told (view ops) p.delta.need e.0 e.1
      (ap (λ (o : Option ReservationView). unwrap_or o None) (sym f) ∙ ap (λ (v : View). v.reservation e.0) told) (known_reservation e f).made

  jobs_are : AllByRecursion (IsJob Two) changes.jobs
  jobs_are = weaker (Found changes.jobs) (IsJob Two) changes.jobs
      (λ e f. job_is ops lawful within changes.version e.0 e.1 (known_job e f) (job_view_is e f) (known_at HasSortedTags _ e.1 f (made.tags e.0)).0 (known_at HasSortedTags _ e.1 f (made.tags e.0)).1) (each_entry changes.jobs made.jobs_ascend)

  reservations_are : AllByRecursion IsReservation changes.reservations
  reservations_are = weaker (Found changes.reservations) IsReservation changes.reservations
      (λ e f. reservation_is ops lawful within e.0 e.1 (known_reservation e f).made (reservation_view_is e f)) (each_entry changes.reservations made.reservations_ascend)

  few_jobs : (site : ℕ) → ids_of site (keys_of changes.jobs) ≤ MAX_JOBS
  few_jobs site =
      let same : ids_of site (keys_of changes.jobs) ≡ ids_of site (jobs_in (cut (view ops) p.delta.need)) = ap (ids_of site) (made.jobs ∙ ap jobs_in told) in
      let fewer : ids_of site (jobs_in (cut (view ops) p.delta.need)) ≤ ids_of site (jobs_in (view ops)) = jobs_told (view ops) p.delta.need site in
      let most : ids_of site (jobs_in (view ops)) ≤ MAX_JOBS = subst (λ (n : ℕ). n ≤ MAX_JOBS) (sym (set_jobs_counted ops lawful site)) (within.jobs site) in
      omega (arith, same, fewer, most)

  few_reservations : (site : ℕ) → ids_of site (keys_of changes.reservations) ≤ MAX_RESERVATIONS
  few_reservations site =
      let same : ids_of site (keys_of changes.reservations) ≡ ids_of site (reservations_in (cut (view ops) p.delta.need)) = ap (ids_of site) (made.reservations ∙ ap reservations_in told) in
      let fewer : ids_of site (reservations_in (cut (view ops) p.delta.need)) ≤ ids_of site (reservations_in (view ops)) = reservations_told (view ops) p.delta.need site in
      let most : ids_of site (reservations_in (view ops)) ≤ MAX_RESERVATIONS = subst (λ (n : ℕ). n ≤ MAX_RESERVATIONS) (sym (set_reservations_counted ops lawful site)) (within.reservations site) in
      omega (arith, same, fewer, most)

  window_covered : (r : ReservationView) → covers_register changes.version r ≡ true → covers_window changes.version r ≡ true
  window_covered None h = refl
  window_covered (Some latest) h = h

  reached_is : changes.version ≡ version_of ops
  reached_is = ap (λ (v : View). v.version) told ∙ cut_version (view ops) p.delta.need

  pub told_within : IsPacket Two p
  told_within = record {
    sender = (omega arith, (let small : p.sender < 16 = made.sender in omega arith));
    need = version_ranged p.delta.need made.need;
    reached = version_ranged changes.version made.reached;
    below = subst (λ n. is_below n changes.version ≡ true) (sym needs) (subst (λ v. is_below (met seen (version_of ops)) v ≡ true) (sym reached_is) (met_below_right seen (version_of ops)));
    jobs = jobs_are;
    jobs_stand = all_stand MAX_JOBS (λ e. is_below e.1.touched changes.version) (job_stands changes.version) (λ before e s t. and_from _ _ s t) [] changes.jobs made.jobs_ascend few_jobs
        (weaker (Found changes.jobs) (λ e. is_below e.1.touched changes.version ≡ true) changes.jobs (λ e f. (known_job e f).touched) (each_entry changes.jobs made.jobs_ascend));
    reservations = reservations_are;
    reservations_stand = all_stand MAX_RESERVATIONS (λ e. covers changes.version e.0 && covers_window changes.version e.1) (reservation_stands changes.version) (λ before e s t. and_from _ _ s t) [] changes.reservations made.reservations_ascend few_reservations
        (weaker (Found changes.reservations) (λ e. (covers changes.version e.0 && covers_window changes.version e.1) ≡ true) changes.reservations
        (λ e f. let k = known_reservation e f in and_from _ _ k.named (window_covered e.1 k.stamp)) (each_entry changes.reservations made.reservations_ascend));
    said = tt;
    retired = retired_ranged ops within p.delta.need changes told reached_is made.board made.reached made.sites made.jobs_ascend made.reservations_ascend;
    retired_stand = retired_stand ops within p.delta.need changes told reached_is made.board made.reached made.sites made.jobs_ascend made.reservations_ascend;
  }
