-- A packet within limits tells of records that a board of the version reached may have.
use Rattle.std.specs.Prelude.{not, unwrap_or, IfSome}
use Rattle.std.specs.List.{AllByRecursion, list_all}
use Rattle.std.specs.Map.{lookup, keys_of}
use Rattle.std.specs.BTreeMap.{is_at}
use Rattle.std.specs.Ordering.{nat_cmp}
use Rattle.std.specs.Cmp.{IsTotalOrder, nat_cmp_total}
use Rattle.std.proofs.Common.{◌≡◌, ◌≢◌, ◌≤◌, ◌==◌, ◌&&◌, ℕ, leb, length, List, [], ◌∷◌, ◌++◌, Bool, true, false, cond, is_some, Option, Some, None, Ordering, refl, sym, ap, subst, inl, inr, arith}
use Rattle.std.proofs.lemmas.Bool.{and_parts, and_from, leb-true, eq-eqb}
use Rattle.std.proofs.lemmas.Map.Lookups.{CmpEqualImpliesEq, exact_unsigned}
use Rattle.std.proofs.lemmas.Map.Views.{tells_apart}
use Rattle.fed_model.specs.declared.capacities.TheConstants.{MAX_JOBS, MAX_RESERVATIONS}
use Rattle.fed_stamp.specs.Stamp.{StampValue}
use Rattle.fed_stamp.specs.Version.{counter_of, covers, is_below}
use Rattle.fed_stamp.proofs.VersionLaws.{covers_more}
use Rattle.fed_lattice.specs.ExactLaws.{exact_stamp}
use Rattle.fed_lattice.specs.Latest.{stamp_cmp}
use Rattle.fed_lattice.specs.Sets.{Has}
use Rattle.fed_lattice.specs.Table.{IsAtEach}
use Rattle.fed_ranges.specs.Ranges.{has as in_ranges}
use Rattle.fed_ranges.specs.Retired.{RetiredValue, has_retired}
use Rattle.fed_ranges.specs.Retirements.{no_retirements}
use Rattle.fed_tags.specs.Tags.{pair_cmp, has}
use Rattle.fed_tags.specs.TagLaws.{pair_total, exact_pair, member}
use Rattle.fed_record.specs.JobRecord.{JobRecordValue, job_reads}
use Rattle.fed_model.specs.Letter.{is_submitted}
use Rattle.fed_model.specs.declared.windows.Window.{Window}
use Rattle.fed_model.specs.Hold.{kind_cmp}
use Rattle.fed_model.specs.HoldLaws.{kind_total, exact_kind}
use Rattle.fed_model.specs.Reservation.{ReservationView}
use Rattle.fed_board.specs.Board.{AreKnownRetirements, IsBoard, IsKnownJob, IsKnownReservation}
use Rattle.fed_record.specs.CoveredJob.{covers_register, covers_stamps, IsCoveredJob, AreCoveredPairs}
use Rattle.fed_job_json.specs.declared.formats.Format.{Format}
use Rattle.fed_job_json.specs.declared.formats.Format.TheVariants.{One, Two}
use Rattle.fed_job_json.specs.Covers.{covers_pairs, covers_tags, covers_job}
use Rattle.fed_job_json.specs.Fields.{IsField}
use Rattle.fed_job_json.specs.Job.{Job, IsJob, IsJobIn, IsAccountIn}
use Rattle.fed_job_json.proofs.JobReads.{site_placed}
use Rattle.fed_parts_json.specs.Retirements.{RetiredSite, AreRetirements}
use Rattle.fed_wire.specs.Reservations.{Reserved, IsReservation}
use Rattle.fed_wire.specs.Packet.{last_of, may_stand, job_stands, covers_window, reservation_stands, is_above, keeps, site_stands, AllStand}
use Rattle.fed_wire.proofs.RetiredLimits.{weaker}

-- ---- jobs

-- a stamp in range is of one of the 16 sites
covered_pair : {E : Type 0} (v : List ℕ) (ps : List (E × StampValue)) → covers_pairs v ps ≡ true → (p : E × StampValue) → Has ps p → covers v p.1 ≡ true
covered_pair v [] e p h = absurd h
covered_pair v (q ∷ ps) e p (inl same) = subst (λ p. covers v p.1 ≡ true) same (and_parts (covers v q.1) (covers_pairs v ps) e).0
covered_pair v (q ∷ ps) e p (inr h) = covered_pair v ps (and_parts (covers v q.1) (covers_pairs v ps) e).1 p h

live_pairs : {E : Type 0} (cmp : E → E → Ordering) → IsTotalOrder cmp → CmpEqualImpliesEq cmp → (v : List ℕ) (ps : List (E × StampValue)) → covers_pairs v ps ≡ true
    → AreCoveredPairs v (λ element tag. has (pair_cmp cmp) ps (element, tag))
live_pairs cmp o exact v ps e element tag live = covered_pair v ps e (element, tag) (member (pair_cmp cmp) (pair_total cmp o) (exact_pair cmp exact) (element, tag) ps live)

-- every stamp is covered
job_covered : (id : StampValue) (r : JobRecordValue) → length r.touched ≡ 16 → covers_job (id, r) ≡ true → IsCoveredJob (job_reads r)
job_covered id r sixteen e =
    let t = and_parts (covers_tags (id, r)) (covers_stamps (job_reads r)) e in
    let pairs = and_parts (covers_pairs r.touched r.holds) (covers_pairs r.touched r.sites) (and_parts (covers r.touched id) _ t.0).1 in
    record {
      counters = sixteen;
      stamps = t.1;
      sites = live_pairs nat_cmp nat_cmp_total exact_unsigned r.touched r.sites pairs.1;
      holds = live_pairs kind_cmp kind_total exact_kind r.touched r.holds pairs.0;
    }

is_set : {T : Type 0} (P : T → Type 0) (o : Option (StampValue × T)) → IsField P o → is_some o ≡ true
is_set P None h = absurd h
is_set P (Some f) h = refl

account_set : (format : Format) (id : StampValue) (o : Option (StampValue × Option (List ℕ))) → IsAccountIn format id o → is_some o ≡ true
account_set One id o h = ap is_some h
account_set Two id o h = is_set _ o h

job_submitted : (format : Format) (id : StampValue) (r : JobRecordValue) → IsJobIn format id r → is_submitted (job_reads r) ≡ true
job_submitted format id r h =
    and_from _ _ (is_set _ r.fields.owner h.owner) (and_from _ _ (is_set _ r.fields.name h.name) (and_from _ _ (is_set _ r.fields.priority h.priority)
    (and_from _ _ (is_set _ r.fields.nodes h.nodes) (and_from _ _ (is_set _ r.fields.limit h.limit) (account_set format id r.fields.account h.account)))))

pub known_job : (format : Format) (reached : List ℕ) (id : StampValue) (r : JobRecordValue) → IsJobIn format id r → is_below r.touched reached ≡ true → IsKnownJob reached id r
known_job format reached id r h below = record {
  placed = site_placed id h.id;
  named = covers_more r.touched reached id below (and_parts (covers r.touched id) _ (and_parts (covers_tags (id, r)) _ h.covered).0).0;
  submitted = job_submitted format id r h;
  touched = below;
  stamps = job_covered id r h.touched.0 h.covered;
}

-- ---- reservations

window_covered : (reached : List ℕ) (P : Option Window → Type 0) (r : ReservationView) → covers_window reached r ≡ true → IsField P r → covers_register reached r ≡ true
window_covered reached P None e h = absurd h
window_covered reached P (Some latest) e h = e

-- ---- what stands at each identifier

at_each : {K X : Type 0} (cmp : K → K → Ordering) → CmpEqualImpliesEq cmp → (P : K → X → Type 0) (es : List (K × X)) → AllByRecursion (λ e. P e.0 e.1) es → IsAtEach cmp P es
at_each cmp exact P [] h k = tt
at_each {K} {X} cmp exact P (e ∷ es) h k = go (is_at (cmp k) e.0) refl (at_each cmp exact P es h.1 k)
  where
    go : (b : Bool) → is_at (cmp k) e.0 ≡ b → IfSome (lookup (is_at (cmp k)) es) (P k) → IfSome (cond b (Some e.1) (lookup (is_at (cmp k)) es)) (P k)
    go true s rest = subst (λ (k : K). P k e.1) (sym (tells_apart exact k e.0 s)) h.0
    go false s rest = rest

-- ---- what is retired

some_ranges : {A : Type 0} (xs : List A) → 1 ≤ length xs → xs ≢ []
some_ranges [] h e = omega arith
some_ranges (x ∷ xs) h e = cc

-- an identifier that each site keeps is not retired
kept_by_all : (rs : RetiredValue) (id : StampValue) → AllByRecursion (λ r. keeps r id ≡ true) rs → has_retired rs id ≡ false
kept_by_all [] id h = refl
kept_by_all (r ∷ rs) id h = go (is_at (nat_cmp id.site) r.0) refl (kept_by_all rs id h.1)
  where
    out : (b : Bool) → not (true && b) ≡ true → b ≡ false
    out true e = absurd cc
    out false e = refl

    go : (b : Bool) → is_at (nat_cmp id.site) r.0 ≡ b → has_retired rs id ≡ false
        → in_ranges (unwrap_or (cond b (Some r.1) (lookup (is_at (nat_cmp id.site)) rs)) no_retirements).ranges id.counter ≡ false
    go true s rest =
        let same : (id.site == r.0) ≡ true = eq-eqb id.site r.0 (tells_apart exact_unsigned id.site r.0 s) in
        out (in_ranges r.1.ranges id.counter) (subst (λ b. not (b && in_ranges r.1.ranges id.counter) ≡ true) same h.0)
    go false s rest = rest

-- of all sites with all identifiers
first_kept : (rs : RetiredValue) (k : StampValue) (ks : List StampValue) → AllByRecursion (λ r. list_all (keeps r) (k ∷ ks) ≡ true) rs
    → AllByRecursion (λ r. keeps r k ≡ true) rs × AllByRecursion (λ r. list_all (keeps r) ks ≡ true) rs
first_kept [] k ks h = (tt, tt)
first_kept (r ∷ rs) k ks h =
    let t = and_parts (keeps r k) (list_all (keeps r) ks) h.0 in
    let rest = first_kept rs k ks h.1 in
    ((t.0, rest.0), (t.1, rest.1))

all_kept : {X : Type 0} (rs : RetiredValue) (es : List (StampValue × X)) → AllByRecursion (λ r. list_all (keeps r) (keys_of es) ≡ true) rs → AllByRecursion (λ e. has_retired rs e.0 ≡ false) es
all_kept rs [] h = tt
all_kept rs (e ∷ es) h =
    let t = first_kept rs e.0 (keys_of es) h in
    (kept_by_all rs e.0 t.0, all_kept rs es t.1)

module _ (format : Format) (reached : List ℕ) where
  jobs_known : (before js : List Job) → AllByRecursion (IsJob format) js → AllStand (job_stands reached) before js → AllByRecursion (λ j. IsKnownJob reached j.0 j.1) js
  jobs_known before [] h i = tt
  jobs_known before (j ∷ js) h i =
      (known_job format reached j.0 j.1 h.0 (and_parts (may_stand MAX_JOBS (keys_of before) j.0) (is_below j.1.touched reached) i.0).1, jobs_known (before ++ j ∷ []) js h.1 i.1)

  reservations_known : (before rs : List Reserved) → AllByRecursion IsReservation rs → AllStand (reservation_stands reached) before rs → AllByRecursion (λ r. IsKnownReservation reached r.0 r.1) rs
  reservations_known before [] h i = tt
  reservations_known before (r ∷ rs) h i =
      let t = and_parts (may_stand MAX_RESERVATIONS (keys_of before) r.0) _ i.0 in
      let u = and_parts (covers reached r.0) (covers_window reached r.1) t.1 in
      (record { placed = site_placed r.0 h.0.0; named = u.0; made = is_set _ r.1 h.0.1; stamp = window_covered reached _ r.1 u.1 h.0.1 }, reservations_known (before ++ r ∷ []) rs h.1 i.1)

  module _ (jobs reservations : List StampValue) where
    -- what the place of each site says
    abbrev Placed : RetiredSite → Type 0
    Placed r = (r.1.latest ≤ counter_of reached r.0) × (list_all (keeps r) jobs ≡ true) × (list_all (keeps r) reservations ≡ true)

    places : (before rs : RetiredValue) → AllStand (site_stands reached jobs reservations) before rs → AllByRecursion Placed rs
    places before [] i = tt
    places before (r ∷ rs) i =
        let t = and_parts (is_above (last_of (keys_of before)) r.0) _ i.0 in
        let u = and_parts (leb r.1.latest (counter_of reached r.0)) _ t.1 in
        let v = and_parts (list_all (keeps r) jobs) (list_all (keeps r) reservations) u.1 in
        ((leb-true r.1.latest (counter_of reached r.0) u.0, v.0, v.1), places (before ++ r ∷ []) rs i.1)

    retired_known : (rs : RetiredValue) → AllByRecursion AreRetirements rs → AllByRecursion Placed rs → AllByRecursion (λ r. AreKnownRetirements reached r.0 r.1) rs
    retired_known [] h i = tt
    retired_known (r ∷ rs) h i =
        let here : AreRetirements r = h.0 in
        let most : r.0 ≤ 15 = here.site.1 in
        (record { placed = omega arith; covered = i.0.0; apart = here.apart; before = here.before; some = some_ranges r.1.ranges here.least }, retired_known rs h.1 i.1)

  pub board_of : (jobs : List Job) (reservations : List Reserved) (retired : RetiredValue) → AllByRecursion (IsJob format) jobs → AllStand (job_stands reached) [] jobs
      → AllByRecursion IsReservation reservations → AllStand (reservation_stands reached) [] reservations
      → AllByRecursion AreRetirements retired → AllStand (site_stands reached (keys_of jobs) (keys_of reservations)) [] retired
      → IsBoard (record { version = reached; retired = retired; jobs = jobs; reservations = reservations })
  board_of jobs reservations retired h i k l m n =
      let js = keys_of jobs in
      let ks = keys_of reservations in
      let placed : AllByRecursion (Placed js ks) retired = places js ks [] retired n in
      record {
        retired = at_each nat_cmp exact_unsigned (AreKnownRetirements reached) retired (retired_known js ks retired m placed);
        jobs = at_each stamp_cmp exact_stamp (IsKnownJob reached) jobs (jobs_known [] jobs h i);
        reservations = at_each stamp_cmp exact_stamp (IsKnownReservation reached) reservations (reservations_known [] reservations k l);
        kept_jobs = at_each stamp_cmp exact_stamp (λ id x. has_retired retired id ≡ false) jobs
            (all_kept retired jobs (weaker (Placed js ks) (λ r. list_all (keeps r) js ≡ true) retired (λ r p. p.1) placed));
        kept_reservations = at_each stamp_cmp exact_stamp (λ id x. has_retired retired id ≡ false) reservations
            (all_kept retired reservations (weaker (Placed js ks) (λ r. list_all (keeps r) ks ≡ true) retired (λ r p. p.2) placed));
      }
