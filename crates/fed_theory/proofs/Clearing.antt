-- A site can retire all but what is unsettled.
use Rattle.std.specs.Prelude.{count_by, filter, is_some, if◌then◌else◌, nat_lt, not, ◌&&◌, ◌||◌, map, Some, None, Ok}
use Rattle.std.specs.List.{range_with_len}
use Rattle.std.proofs.Common.{◌≡◌, ◌⊎◌, ℕ, suc, ◌+◌, ◌-◌, ◌≤◌, ◌<◌, List, [], ◌∷◌, ◌++◌, length, Bool, true, false, refl, sym, ap, subst, ◌∙◌, inl, inr, append_assoc, append-nil, length-append, arith}
use Rattle.std.proofs.lemmas.Bool.{and_from, and_parts, cases_Bool, cases_eq, cond-true, both_ways, eq-eqb, le-leb, lt-ltb, or_left, or_right, or_cases, or_parts, or_from}
use Rattle.std.proofs.lemmas.List.{map-append}
use Rattle.std.proofs.lemmas.List.Elements.{All-from_get_or}
use Rattle.std.proofs.lemmas.List.Folds.{list_any-append}
use Rattle.std.proofs.lemmas.List.Filters.{length-filter_both}
use Rattle.std.proofs.Math.Bool.{or-false}
use Rattle.fed_stamp.specs.declared.stamps.TheConstants.{MAX_COUNTER}
use Rattle.fed_stamp.specs.Stamp.{StampValue}
use Rattle.fed_stamp.specs.Version.{counter_of, greatest, next_stamp, raised}
use Rattle.fed_stamp.proofs.VersionLaws.{covered_counter_le_greatest, greatest_bound}
use Rattle.fed_lattice.specs.Sets.{Has}
use Rattle.fed_lattice.specs.SetLaws.{Has-left, Has-right, Has-cases}
use Rattle.fed_lattice.specs.History.{History}
use Rattle.fed_lattice.specs.VersionOf.{version_of}
use Rattle.fed_lattice.proofs.FilterLaws.{Has-filter, filter-Has}
use Rattle.fed_lattice.proofs.VersionOfLaws.{raised_cases, version_of-Has, version_of-push}
use Rattle.fed_model.specs.declared.askers.Who.{Who}
use Rattle.fed_model.specs.declared.commands.Command.{Command}
use Rattle.fed_model.specs.declared.replies.Reply.{Reply}
use Rattle.fed_model.specs.Body.{Body, Body.Submit, Body.Reserve, Body.Retire}
use Rattle.fed_model.specs.JobView.{JobView, unknown}
use Rattle.fed_model.specs.Lawful.{IsLawful}
use Rattle.fed_model.specs.Letter.{any_below, is_submitted}
use Rattle.fed_model.specs.Origin.{jobs_of, ranges_of, ranges_with}
use Rattle.fed_model.specs.Reservation.{ReservationView}
use Rattle.fed_model.specs.Refusals.{has_unsettled, is_settled, is_standing, is_unsettled}
use Rattle.fed_model.specs.Retired.{is_within, is_retired, retires}
use Rattle.fed_model.specs.View.{view}
use Rattle.fed_model.specs.Answer.{Answer.Replies, answer}
use Rattle.fed_model.specs.declared.events.Event.{Event}
use Rattle.fed_model.specs.declared.events.Event.TheVariants.{Do}
use Rattle.fed_model.specs.declared.outcomes.Outcome.TheVariants as Outcome
use Rattle.fed_model.specs.declared.capacities.TheConstants.{MAX_RANGES}
use Rattle.fed_model.specs.Run.{World, does, outcomes, run, step, with_operation}
use Rattle.fed_theory.specs.Retirements.{CanRetireSettled, retires_at, unsettled_of}
use Rattle.fed_theory.specs.ViewSteps.{add_to_view}
use Rattle.fed_theory.proofs.Emptying.{retire_done}
use Rattle.fed_theory.proofs.FoundLaws.{none_found}
use Rattle.fed_theory.proofs.Gaps.{IsGap, each_gap, covered, few_gaps, few_starts, gaps, in_range, in_some, in_some_by, in_some_found, range_ends, starts_kept, start_in, with_range}
use Rattle.fed_theory.proofs.JobRoom.{room_left}
use Rattle.fed_theory.proofs.NextStamps.{next_is, next_uncovered}
use Rattle.fed_theory.proofs.OriginCounts.{fewer, shorter, identifier, lawful_countable, retired_reached}
use Rattle.fed_theory.proofs.PresenceLaws.{any_below_from, any_below_found}
use Rattle.fed_theory.proofs.RetiredLaws.{retired_pushed, retiring, retirement}
use Rattle.fed_theory.proofs.Runs.{cut_ranges, outcomes-push, put_same, run_good, run-push}
use Rattle.fed_theory.proofs.RunSteps.{do_here, site_lawful}
use Rattle.fed_theory.proofs.SubmitLaws.{read_retired, reserve_of, standing_whole, submit_of, unknown_view, unretired}
use Rattle.fed_theory.proofs.ViewLaws.{view_push}

-- ---- what is read once one range more is hidden
hidden : {T : Type 0} (none j x : T) (p q s : Bool) → (p ≡ true → x ≡ none) → x ≡ (if s then none else j) → (if p || q then none else x) ≡ (if s || (q || false) then none else j)
hidden none j x true q true gone is = refl
hidden none j x true true false gone is = refl
hidden none j x true false false gone is = sym (gone refl) ∙ is
hidden none j x false true true gone is = refl
hidden none j x false true false gone is = refl
hidden none j x false false true gone is = is
hidden none j x false false false gone is = is

or_nothing : (a b c : Bool) → ((a || b) || c) ≡ (a || (b || (c || false)))
or_nothing a b c = grind arith

-- an identifier of which nothing is known is not unsettled
abbrev reads_unsettled : ℕ → JobView → ReservationView → Bool
reads_unsettled site j r = (is_submitted j && not (is_settled site j)) || is_standing r

-- what is unsettled isn't retired, and was made
record IsNamed (ops : History Body) (id : StampValue) : Type 0 where
  live : is_retired ops id ≡ false
  reached : id.counter ≤ counter_of (version_of ops) id.site

named : (ops : History Body) → IsLawful ops → (site : ℕ) (id : StampValue) → is_unsettled (view ops) site id ≡ true → IsNamed ops id
named ops l site id e = elim (or_cases (is_submitted ((view ops).job id) && not (is_settled site ((view ops).job id))) (is_standing ((view ops).reservation id)) e) [
  | inl j ↦ (
      let known = (and_parts (is_submitted ((view ops).job id)) _ j).0 in
      let s = submit_of ops id known in
      record { live = unretired ops id known; reached = version_of-Has ops (id, Submit s.0 s.1 s.2) s.3 (l.sites _ s.3) })
  | inr r ↦ (
      let known = made ((view ops).reservation id) r in
      let s = reserve_of ops id l known in
      record { live = (standing_whole ops id known).0; reached = version_of-Has ops (id, Reserve s.0) s.1 (l.sites _ s.1) })
]
  where
    made : (r : ReservationView) → is_standing r ≡ true → is_some r ≡ true
    made None k = cc
    made (Some r) k = refl

-- the counters of a version of one operation more
greatest_more : (v : List ℕ) (t : StampValue) → t.counter ≡ greatest v + 1 → greatest (raised v t) ≤ greatest v + 1
greatest_more v t is = greatest_bound (raised v t) (greatest v + 1) (All-from_get_or (λ c. c ≤ greatest v + 1) (raised v t) 0 (λ i small. each i))
  where
    each : (i : ℕ) → counter_of (raised v t) i ≤ greatest v + 1
    each i =
        let old : counter_of v i ≤ greatest v = covered_counter_le_greatest v (record { counter = counter_of v i; site = i }) (le-leb _ _ (omega arith)) in
        elim (raised_cases v t i) [ inl e ↦ omega arith | inr e ↦ let q = e.1 in omega arith ]

module _ (n : ℕ) (few : n ≤ 16) (events : List Event) (site : ℕ) (small : site < n) (who : Who) where
  abbrev first : History Body
  first = ((run n events).site site).set

  abbrev most : ℕ
  most = counter_of (version_of first) site

  abbrev id : ℕ → StampValue
  id k = identifier site k

  abbrev u : ℕ → Bool
  u k = is_unsettled (view first) site (id k)

  abbrev then_events : List (ℕ × ℕ) → List Event
  then_events ranges = events ++ retires_at site who ranges

  abbrev held : List (ℕ × ℕ) → History Body
  held ranges = ((run n (then_events ranges)).site site).set

  lawful_then : (ranges : List (ℕ × ℕ)) → IsLawful (held ranges)
  lawful_then ranges = site_lawful n (then_events ranges) few site

  first_lawful : IsLawful first
  first_lawful = site_lawful n events few site

  -- counters begin at 1
  counted : (e : StampValue × Body) → Has first e → 1 ≤ e.0.counter
  counted e h = let g = run_good n events few in let c = (g.1.counted e ((g.1.cuts site).within e h)).0 in omega arith

  -- what is retired is neither at 0 nor beyond the version
  retired_within : (ops : History Body) → IsLawful ops → (k : ℕ) → is_retired ops (id k) ≡ true → (1 ≤ k) × (k < counter_of (version_of ops) site)
  retired_within ops l k e =
      let f = retiring ops (id k) e in
      let r = retirement f.0 (id k) f.2 in
      let low = r.low in
      let g = l.grounded (f.0.0, Retire r.first r.last) (subst (Has ops) r.is f.1) in
      let one = g.0 in
      let below = retired_reached ops (lawful_countable ops l) (id k) e in
      (omega arith, omega arith)

  -- ---- behind the Retires of these ranges
  record Stage (ranges : List (ℕ × ℕ)) : Type 0 where
    done : outcomes n (then_events ranges) ≡ outcomes n events ++ map (λ r. Outcome.Replied Reply.Done) ranges
    each : (r : ℕ × ℕ) → Has ranges r → IsGap u most r
    retired : (k : ℕ) → is_retired (held ranges) (id k) ≡ (is_retired first (id k) || in_some ranges k)
    jobs : (k : ℕ) → (view (held ranges)).job (id k) ≡ (if in_some ranges k then unknown else (view first).job (id k))
    reservations : (k : ℕ) → (view (held ranges)).reservation (id k) ≡ (if in_some ranges k then None else (view first).reservation (id k))
    reach : most ≤ counter_of (version_of (held ranges)) site
    clock : greatest (version_of (held ranges)) ≤ greatest (version_of first) + length ranges

  same_start : then_events [] ≡ events
  same_start = append-nil events

  stage_start : Stage []
  stage_start =
      let is : held [] ≡ first = ap (λ (l : List Event). ((run n l).site site).set) same_start in
      let reach : most ≤ counter_of (version_of (held [])) site = subst (λ (xs : History Body). most ≤ counter_of (version_of xs) site) (sym is) (omega arith) in
      let clock : greatest (version_of (held [])) ≤ greatest (version_of first) + 0 = subst (λ (xs : History Body). greatest (version_of xs) ≤ greatest (version_of first) + 0) (sym is) (omega arith) in
      record {
        done = ap (outcomes n) same_start ∙ sym (append-nil (outcomes n events));
        each = λ r h. absurd h;
        retired = λ k. ap (λ xs. is_retired xs (id k)) is ∙ sym (or-false (is_retired first (id k)));
        jobs = λ k. ap (λ xs. (view xs).job (id k)) is;
        reservations = λ k. ap (λ xs. (view xs).reservation (id k)) is;
        reach = reach;
        clock = clock;
      }

  -- ---- one range more
  module _ (ranges : List (ℕ × ℕ)) (s : Stage ranges) where
    abbrev ops : History Body
    ops = held ranges

    abbrev here : ℕ → Bool
    here k = is_retired ops (id k)

    -- what is unsettled was so before
    unsettled_before : (k : ℕ) → is_unsettled (view ops) site (id k) ≡ true → (u k ≡ true) × (in_some ranges k ≡ false)
    unsettled_before k e = go (in_some ranges k) refl (s.jobs k) (s.reservations k)
      where
        go : (b : Bool) → in_some ranges k ≡ b → (view ops).job (id k) ≡ (if b then unknown else (view first).job (id k)) → (view ops).reservation (id k) ≡ (if b then None else (view first).reservation (id k)) → (u k ≡ true) × (in_some ranges k ≡ false)
        go true at j r =
            let f : reads_unsettled site unknown None ≡ true = (λ i. reads_unsettled site (sym j i) (sym r i)) ∙ e in cc
        go false at j r = ((λ i. reads_unsettled site (sym j i) (sym r i)) ∙ e, at)

    -- a range in which nothing is unsettled
    none_left : (r : ℕ × ℕ) → IsGap u most r → has_unsettled (view ops) site r.0 r.1 ≡ false
    none_left r g = elim (cases_Bool (has_unsettled (view ops) site r.0 r.1)) [
      | inr f ↦ f
      | inl t ↦ absurd (
          let test : ℕ → Bool = λ counter. is_within r.0 r.1 counter && is_unsettled (view ops) site (record { counter = counter; site = site }) in
          let f = any_below_found (suc (counter_of (version_of ops) site)) test t in
          let p = and_parts (is_within r.0 r.1 f.0) (is_unsettled (view ops) site (id f.0)) f.2 in
          let ends = range_ends r f.0 p.0 in
          both_ways (u f.0) (g.free f.0 ends.0 ends.1) (unsettled_before f.0 p.1).0)
    ]

    -- the ranges that are retired are few enough
    few_ranges : ranges_of (view ops) site ≤ MAX_RANGES
    few_ranges =
        let now = then_events ranges in
        let g = run_good n now few in
        cut_ranges g.0 g.1.lawful g.1.ranges ops (g.1.cuts site) site

    module _ (r : ℕ × ℕ) (g : IsGap u most r) (fits : ranges_with (view ops) site r.0 r.1 ≤ MAX_RANGES) (left : greatest (version_of ops) < MAX_COUNTER) where
      abbrev t : StampValue
      t = record { counter = greatest (version_of ops) + 1; site = site }

      abbrev asked : Event
      asked = Do site who (Command.Retire r.0 r.1)

      next : next_stamp (version_of ops) site ≡ Ok t
      next = cond-true (nat_lt (greatest (version_of ops)) MAX_COUNTER) _ _ (lt-ltb (greatest (version_of ops)) MAX_COUNTER left)

      said : answer ops site who (Command.Retire r.0 r.1) ≡ Replies Reply.Done (Some (t, Retire r.0 r.1))
      said =
          let low = g.low in let some = g.some in let high = g.high in let reach = s.reach in
          retire_done ops (lawful_then ranges) site who r.0 r.1 t next low some (omega arith) fits (none_left r g)

      stepped : step n (run n (then_events ranges)) asked ≡ does (run n (then_events ranges)) site (Replies Reply.Done (Some (t, Retire r.0 r.1)))
      stepped = do_here n (run n (then_events ranges)) site who (Command.Retire r.0 r.1) small ∙ ap (does (run n (then_events ranges)) site) said

      more : then_events (ranges ++ r ∷ []) ≡ then_events ranges ++ asked ∷ []
      more =
          let whole : (events ++ retires_at site who ranges) ++ asked ∷ [] ≡ events ++ (retires_at site who ranges ++ asked ∷ []) = simp append_assoc in
          ap (λ l. events ++ l) (map-append (λ (r : ℕ × ℕ). Do site who (Command.Retire r.0 r.1)) ranges (r ∷ [])) ∙ sym whole

      held_more : held (ranges ++ r ∷ []) ≡ ops ++ (t, Retire r.0 r.1) ∷ []
      held_more =
          ap (λ (l : List Event). ((run n l).site site).set) more
          ∙ ap (λ (w : World). (w.site site).set) (run-push n (then_events ranges) asked)
          ∙ ap (λ x. (x.after.site site).set) stepped
          ∙ ap (λ x. x.set) (put_same (run n (then_events ranges)).site site (with_operation ((run n (then_events ranges)).site site) (t, Retire r.0 r.1)))

      names : (k : ℕ) → retires (id k) (t, Retire r.0 r.1) ≡ is_within r.0 r.1 k
      names k = ap (λ b. b && is_within r.0 r.1 k) (eq-eqb site site refl)

      some_more : (k : ℕ) → in_some (ranges ++ r ∷ []) k ≡ (in_some ranges k || (is_within r.0 r.1 k || false))
      some_more k = list_any-append (λ (x : ℕ × ℕ). is_within x.0 x.1 k) ranges (r ∷ [])

      read_more : view (ops ++ (t, Retire r.0 r.1) ∷ []) ≡ add_to_view (view ops) (t, Retire r.0 r.1)
      read_more = view_push ops (t, Retire r.0 r.1) (lawful_then ranges) (next_uncovered (version_of ops) site t (next_is (version_of ops) site t next))

      job_more : (k : ℕ) → (view (ops ++ (t, Retire r.0 r.1) ∷ [])).job (id k) ≡ (if is_retired ops (id k) || retires (id k) (t, Retire r.0 r.1) then unknown else (view ops).job (id k))
      unfolding add_to_view
      job_more k = ap (λ v. v.job (id k)) read_more

      reservation_more : (k : ℕ) → (view (ops ++ (t, Retire r.0 r.1) ∷ [])).reservation (id k) ≡ (if is_retired ops (id k) || retires (id k) (t, Retire r.0 r.1) then None else (view ops).reservation (id k))
      unfolding add_to_view
      reservation_more k = ap (λ v. v.reservation (id k)) read_more

      gone_reservation : (k : ℕ) → is_retired ops (id k) ≡ true → (view ops).reservation (id k) ≡ None
      gone_reservation k e = none_found ((view ops).reservation (id k)) (elim (cases_Bool (is_some ((view ops).reservation (id k)))) [
        | inr f ↦ f
        | inl y ↦ absurd (both_ways (is_retired ops (id k)) (standing_whole ops (id k) y).0 e)
      ])

      version_then : version_of (held (ranges ++ r ∷ [])) ≡ raised (version_of ops) t
      version_then = ap (λ xs. version_of xs) held_more ∙ version_of-push ops (t, Retire r.0 r.1)

      stage_next : Stage (ranges ++ r ∷ [])
      stage_next =
          let old = s.reach in let time = s.clock in
          let reach : most ≤ counter_of (version_of (held (ranges ++ r ∷ []))) site =
          subst (λ (v : List ℕ). most ≤ counter_of v site) (sym version_then) (elim (raised_cases (version_of ops) t site) [ inl e ↦ omega arith | inr e ↦ let q = e.1 in omega arith ]) in
          let up : greatest (version_of (held (ranges ++ r ∷ []))) ≤ greatest (version_of ops) + 1 =
          subst (λ (v : List ℕ). greatest v ≤ greatest (version_of ops) + 1) (sym version_then) (greatest_more (version_of ops) t refl) in
          let long : length (ranges ++ r ∷ []) ≡ length ranges + 1 = simp length-append in
          record {
            done = ap (outcomes n) more
                ∙ outcomes-push n (then_events ranges) asked
                ∙ (λ i. s.done i ++ (stepped i).outcome ∷ [])
                ∙ append_assoc (outcomes n events) (map (λ r. Outcome.Replied Reply.Done) ranges) (Outcome.Replied Reply.Done ∷ [])
                ∙ ap (λ l. outcomes n events ++ l) (sym (map-append (λ (x : ℕ × ℕ). Outcome.Replied Reply.Done) ranges (r ∷ [])));
            each = λ x h. elim (Has-cases ranges (r ∷ []) x h) [ inl k ↦ s.each x k | inr k ↦ elim k [ inl e ↦ subst (IsGap u most) e g | inr none ↦ absurd none ] ];
            retired = λ k.
                ap (λ xs. is_retired xs (id k)) held_more
                ∙ retired_pushed ops (t, Retire r.0 r.1) (id k)
                ∙ (λ i. s.retired k i || names k i)
                ∙ or_nothing (is_retired first (id k)) (in_some ranges k) (is_within r.0 r.1 k)
                ∙ ap (λ b. is_retired first (id k) || b) (sym (some_more k));
            jobs = λ k.
                ap (λ xs. (view xs).job (id k)) held_more
                ∙ job_more k
                ∙ ap (λ b. if is_retired ops (id k) || b then unknown else (view ops).job (id k)) (names k)
                ∙ hidden unknown ((view first).job (id k)) ((view ops).job (id k)) (is_retired ops (id k)) (is_within r.0 r.1 k) (in_some ranges k) (read_retired ops (id k)) (s.jobs k)
                ∙ ap (λ b. if b then unknown else (view first).job (id k)) (sym (some_more k));
            reservations = λ k.
                ap (λ xs. (view xs).reservation (id k)) held_more
                ∙ reservation_more k
                ∙ ap (λ b. if is_retired ops (id k) || b then None else (view ops).reservation (id k)) (names k)
                ∙ hidden None ((view first).reservation (id k)) ((view ops).reservation (id k)) (is_retired ops (id k)) (is_within r.0 r.1 k) (in_some ranges k) (gone_reservation k) (s.reservations k)
                ∙ ap (λ b. if b then None else (view first).reservation (id k)) (sym (some_more k));
            reach = reach;
            clock = omega arith;
          }

  -- nothing beyond the version is unsettled
  beyond : (k : ℕ) → 0 + suc most ≤ k → u k ≡ false
  beyond k far = elim (cases_Bool (u k)) [ inr f ↦ f | inl t ↦ absurd (let h = (named first first_lawful site (id k) t).reached in omega arith) ]

  -- ---- ranges that have something retired already come first
  -- the range has an identifier that is retired
  hit : ℕ × ℕ → Bool
  hit r = any_below (suc most) (λ k. is_within r.0 r.1 k && is_retired first (id k))

  -- nothing is retired where something is unsettled, or at 0
  unretired_behind : (ranges : List (ℕ × ℕ)) → Stage ranges → (k : ℕ) → (k ≡ 0) ⊎ (u k ≡ true) → is_retired (held ranges) (id k) ≡ false
  unretired_behind ranges s k (inl z) = elim (cases_Bool (is_retired (held ranges) (id k))) [
    | inr f ↦ f
    | inl t ↦ absurd (let w = (retired_within (held ranges) (lawful_then ranges) k t).0 in omega arith)
  ]
  unretired_behind ranges s k (inr e) = s.retired k ∙ or_from (is_retired first (id k)) (in_some ranges k) (named first first_lawful site (id k) e).live out
    where
      out : in_some ranges k ≡ false
      out = elim (cases_Bool (in_some ranges k)) [
        | inr f ↦ f
        | inl t ↦ absurd (
            let f = in_some_found ranges k t in
            let ends = range_ends f.0 k f.2 in
            both_ways (u k) ((s.each f.0 f.1).free k ends.0 ends.1) e)
      ]

  room_of_hits : (ranges : List (ℕ × ℕ)) → Stage ranges → (r : ℕ × ℕ) → IsGap u most r → hit r ≡ true → ranges_with (view (held ranges)) site r.0 r.1 ≤ MAX_RANGES
  unfolding hit
  room_of_hits ranges s r g e =
      let f = any_below_found (suc most) (λ k. is_within r.0 r.1 k && is_retired first (id k)) e in
      let p = and_parts (is_within r.0 r.1 f.0) (is_retired first (id f.0)) f.2 in
      let ends = range_ends r f.0 p.0 in
      let from = ends.0 in let to = ends.1 in
      let low = g.low in let high = g.high in let reach = s.reach in
      let one : suc (r.0 - 1) ≡ r.0 = omega arith in
      let out = unretired_behind ranges s (r.0 - 1) (g.behind (r.0 - 1) one) in
      let on : is_retired (held ranges) (id f.0) ≡ true = s.retired f.0 ∙ or_left (is_retired first (id f.0)) (in_some ranges f.0) p.1 in
      let n : ℕ = suc (counter_of (version_of (held ranges)) site) in
      let here : ℕ → Bool = λ k. is_retired (held ranges) (id k) in
      let kept : count_by (start_in (with_range here (suc (r.0 - 1), r.1))) (range_with_len 0 n) ≤ count_by (start_in here) (range_with_len 0 n) =
      starts_kept here (r.0 - 1) r.1 f.0 n out (omega arith) to on (omega arith) in
      let same : count_by (start_in (with_range here (r.0, r.1))) (range_with_len 0 n) ≤ count_by (start_in here) (range_with_len 0 n) =
      subst (λ (a : ℕ). count_by (start_in (with_range here (a, r.1))) (range_with_len 0 n) ≤ count_by (start_in here) (range_with_len 0 n)) one kept in
      let few_now : count_by (start_in here) (range_with_len 0 n) ≤ MAX_RANGES = few_ranges ranges s in
      let least : count_by (start_in (with_range here (r.0, r.1))) (range_with_len 0 n) ≤ MAX_RANGES = omega arith in
      least

  -- where all that is retired is in these gaps
  room_of_gaps : (ranges : List (ℕ × ℕ)) → Stage ranges → ((k : ℕ) → is_retired first (id k) ≡ true → in_some ranges k ≡ true) → unsettled_of (view first) site < MAX_RANGES → (r : ℕ × ℕ) → IsGap u most r → ranges_with (view (held ranges)) site r.0 r.1 ≤ MAX_RANGES
  room_of_gaps ranges s whole some r g =
      let n : ℕ = suc (counter_of (version_of (held ranges)) site) in
      let here : ℕ → Bool = λ k. is_retired (held ranges) (id k) in
      let starts : count_by (start_in (with_range here r)) (range_with_len 0 n) ≤ count_by u (range_with_len 0 n) + 1 = few_starts u (with_range here r) most n behind in
      let counted_then : count_by u (range_with_len 0 n) ≤ unsettled_of (view first) site = shorter u n (suc most) 0 (λ k far. beyond k far) in
      let least : count_by (start_in (with_range here r)) (range_with_len 0 n) ≤ MAX_RANGES = omega arith in
      least
    where
      -- a number in a gap whose predecessor isn't
      edge : (h : ℕ × ℕ) (k : ℕ) → IsGap u most h → is_within h.0 h.1 (suc k) ≡ true → is_within h.0 h.1 k ≡ false → (k ≡ 0) ⊎ (u k ≡ true)
      edge h k gap e out =
          let ends = range_ends h (suc k) e in
          let low = ends.0 in let high = ends.1 in
          elim (cases_eq (suc k) h.0) [
            | inl same ↦ gap.behind k same
            | inr apart ↦ absurd (both_ways (is_within h.0 h.1 k) out (in_range h k (omega arith) (omega arith)))
          ]

      inside : (k : ℕ) → is_retired (held ranges) (id k) ≡ true → (h : ℕ × ℕ) × Has ranges h × (is_within h.0 h.1 k ≡ true)
      inside k t = elim (or_cases (is_retired first (id k)) (in_some ranges k) (sym (s.retired k) ∙ t)) [
        | inl e ↦ in_some_found ranges k (whole k e)
        | inr e ↦ in_some_found ranges k e
      ]

      outside : (k : ℕ) (h : ℕ × ℕ) → Has ranges h → is_retired (held ranges) (id k) ≡ false → is_within h.0 h.1 k ≡ false
      outside k h there e = elim (cases_Bool (is_within h.0 h.1 k)) [
        | inr f ↦ f
        | inl t ↦ absurd (both_ways (is_retired (held ranges) (id k)) e (s.retired k ∙ or_right (is_retired first (id k)) (in_some ranges k) (in_some_by ranges h k there t)))
      ]

      behind : (k : ℕ) → with_range (λ k. is_retired (held ranges) (id k)) r (suc k) ≡ true → with_range (λ k. is_retired (held ranges) (id k)) r k ≡ false → (k ≡ 0) ⊎ (u k ≡ true)
      behind k t f =
          let out = or_parts (is_retired (held ranges) (id k)) (is_within r.0 r.1 k) f in
          elim (or_cases (is_retired (held ranges) (id (suc k))) (is_within r.0 r.1 (suc k)) t) [
            | inl e ↦ (let h = inside (suc k) e in edge h.0 k (s.each h.0 h.1) h.2 (outside k h.0 h.1 out.0))
            | inr e ↦ edge r k g e out.1
          ]

  -- ---- all of them
  module _ (some : unsettled_of (view first) site < MAX_RANGES) (time : greatest (version_of first) + (unsettled_of (view first) site + 1) ≤ MAX_COUNTER) where
    time_left : (ranges : List (ℕ × ℕ)) → Stage ranges → length ranges < unsettled_of (view first) site + 1 → greatest (version_of (held ranges)) < MAX_COUNTER
    time_left ranges s short = let c = s.clock in omega arith

    hits_done : (rest ranges : List (ℕ × ℕ)) → Stage ranges → ((r : ℕ × ℕ) → Has rest r → IsGap u most r × (hit r ≡ true)) → length ranges + length rest ≤ unsettled_of (view first) site + 1 → Stage (ranges ++ rest)
    hits_done [] ranges s each short = subst Stage (sym (append-nil ranges)) s
    hits_done (r ∷ rest) ranges s each short =
        let g = each r (inl refl) in
        let now = stage_next ranges s r g.0 (room_of_hits ranges s r g.0 g.1) (time_left ranges s (omega arith)) in
        let long : length (ranges ++ r ∷ []) ≡ length ranges + 1 = simp length-append in
        let whole : (ranges ++ r ∷ []) ++ rest ≡ ranges ++ r ∷ rest = simp append_assoc in
        subst Stage whole (hits_done rest (ranges ++ r ∷ []) now (λ x h. each x (inr h)) (omega arith))

    gaps_done : (rest ranges : List (ℕ × ℕ)) → Stage ranges → ((k : ℕ) → is_retired first (id k) ≡ true → in_some ranges k ≡ true) → ((r : ℕ × ℕ) → Has rest r → IsGap u most r) → length ranges + length rest ≤ unsettled_of (view first) site + 1 → Stage (ranges ++ rest)
    gaps_done [] ranges s covers_all each short = subst Stage (sym (append-nil ranges)) s
    gaps_done (r ∷ rest) ranges s covers_all each short =
        let g = each r (inl refl) in
        let now = stage_next ranges s r g (room_of_gaps ranges s covers_all some r g) (time_left ranges s (omega arith)) in
        let long : length (ranges ++ r ∷ []) ≡ length ranges + 1 = simp length-append in
        let whole : (ranges ++ r ∷ []) ++ rest ≡ ranges ++ r ∷ rest = simp append_assoc in
        subst Stage whole (gaps_done rest (ranges ++ r ∷ []) now
        (λ k e. list_any-append (λ (x : ℕ × ℕ). is_within x.0 x.1 k) ranges (r ∷ []) ∙ or_left (in_some ranges k) _ (covers_all k e))
        (λ x h. each x (inr h)) (omega arith))

    abbrev all_gaps : List (ℕ × ℕ)
    all_gaps = gaps u most

    abbrev hits : List (ℕ × ℕ)
    hits = filter hit all_gaps

    abbrev others : List (ℕ × ℕ)
    others = filter (λ r. not (hit r)) all_gaps

    number : length hits + length others ≤ unsettled_of (view first) site + 1
    number =
        let a = length-filter_both hit (λ r. not (hit r)) (λ r. refl) all_gaps in
        let b : length all_gaps ≤ count_by u (range_with_len 0 (suc most)) + 1 = few_gaps u most (suc most) (omega arith) in omega arith

    -- a counter at which nothing is unsettled is in a gap
    in_gap : (k : ℕ) → 1 ≤ k → k ≤ most → u k ≡ false → (r : ℕ × ℕ) × Has all_gaps r × (is_within r.0 r.1 k ≡ true)
    in_gap k low high e = covered u most k low high e

    hit_by : (r : ℕ × ℕ) (k : ℕ) → is_within r.0 r.1 k ≡ true → k ≤ most → is_retired first (id k) ≡ true → hit r ≡ true
    unfolding hit
    hit_by r k e low t = any_below_from (suc most) (λ j. is_within r.0 r.1 j && is_retired first (id j)) k (omega arith) (and_from (is_within r.0 r.1 k) (is_retired first (id k)) e t)

    retired_covered : (k : ℕ) → is_retired first (id k) ≡ true → in_some hits k ≡ true
    retired_covered k e =
        let w = retired_within first first_lawful k e in
        let low = w.0 in let high = w.1 in
        let f = in_gap k low (omega arith) (elim (cases_Bool (u k)) [ inr n ↦ n | inl t ↦ absurd (both_ways (is_retired first (id k)) (named first first_lawful site (id k) t).live e) ]) in
        in_some_by hits f.0 k (filter-Has hit all_gaps f.0 f.1 (hit_by f.0 k f.2 (omega arith) e)) f.2

    all_done : Stage (hits ++ others)
    all_done =
        let short = number in
        let one = hits_done hits [] stage_start (λ r h. let m = Has-filter hit all_gaps r h in (each_gap u most r m.0, m.1)) (omega arith) in
        gaps_done others hits one retired_covered (λ r h. each_gap u most r (Has-filter (λ r. not (hit r)) all_gaps r h).0) short

    all_covered : (k : ℕ) → 1 ≤ k → k ≤ most → u k ≡ false → in_some (hits ++ others) k ≡ true
    all_covered k low high e =
        let f = in_gap k low high e in
        elim (cases_Bool (hit f.0)) [
          | inl t ↦ in_some_by (hits ++ others) f.0 k (Has-left hits others f.0 (filter-Has hit all_gaps f.0 f.1 t)) f.2
          | inr n ↦ in_some_by (hits ++ others) f.0 k (Has-right hits others f.0 (filter-Has (λ r. not (hit r)) all_gaps f.0 f.1 (ap not n))) f.2
        ]

    -- an identifier that isn't in a gap and isn't unsettled names nothing
    no_job : (k : ℕ) → in_some (hits ++ others) k ≡ false → u k ≡ false → (view first).job (id k) ≡ unknown
    no_job k out e = unknown_view first (id k) first_lawful (elim (cases_Bool (is_submitted ((view first).job (id k)))) [
      | inr f ↦ f
      | inl t ↦ absurd (
          let s = submit_of first (id k) t in
          both_ways (in_some (hits ++ others) k) out (all_covered k (counted _ s.3) (version_of-Has first (id k, Submit s.0 s.1 s.2) s.3 (first_lawful.sites _ s.3)) e))
    ])

    no_reservation : (k : ℕ) → in_some (hits ++ others) k ≡ false → u k ≡ false → (view first).reservation (id k) ≡ None
    no_reservation k out e = none_found ((view first).reservation (id k)) (elim (cases_Bool (is_some ((view first).reservation (id k)))) [
      | inr f ↦ f
      | inl t ↦ absurd (
          let s = reserve_of first (id k) first_lawful t in
          both_ways (in_some (hits ++ others) k) out (all_covered k (counted _ s.1) (version_of-Has first (id k, Reserve s.0) s.1 (first_lawful.sites _ s.1)) e))
    ])

    -- what is in a gap is not unsettled
    gap_settled : (k : ℕ) → in_some (hits ++ others) k ≡ true → u k ≡ false
    gap_settled k e =
        let f = in_some_found (hits ++ others) k e in
        let ends = range_ends f.0 k f.2 in (all_done.each f.0 f.1).free k ends.0 ends.1

    chosen : {T : Type 0} (none x : T) (b c : Bool) → (b ≡ true → c ≡ false) → (b ≡ false → c ≡ false → x ≡ none) → (if b then none else x) ≡ (if c then x else none)
    chosen none x true true f g = absurd (let p = f refl in cc)
    chosen none x true false f g = refl
    chosen none x false true f g = refl
    chosen none x false false f g = g refl refl

    jobs_then : (k : ℕ) → (view (held (hits ++ others))).job (id k) ≡ (if u k then (view first).job (id k) else unknown)
    jobs_then k = all_done.jobs k ∙ chosen unknown ((view first).job (id k)) (in_some (hits ++ others) k) (u k) (gap_settled k) (no_job k)

    reservations_then : (k : ℕ) → (view (held (hits ++ others))).reservation (id k) ≡ (if u k then (view first).reservation (id k) else None)
    reservations_then k = all_done.reservations k ∙ chosen None ((view first).reservation (id k)) (in_some (hits ++ others) k) (u k) (gap_settled k) (no_reservation k)

    few_jobs : jobs_of (view (held (hits ++ others))) site ≤ unsettled_of (view first) site
    few_jobs =
        let n : ℕ = suc (counter_of (version_of (held (hits ++ others))) site) in
        let p : ℕ → Bool = λ k. is_submitted ((view (held (hits ++ others))).job (id k)) in
        let a : count_by p (range_with_len 0 n) ≤ count_by u (range_with_len 0 n) = fewer p u n 0 (λ k low t. known k (u k) refl (ap is_submitted (sym (jobs_then k)) ∙ t)) in
        let b : count_by u (range_with_len 0 n) ≤ unsettled_of (view first) site = shorter u n (suc most) 0 (λ k far. beyond k far) in
        omega arith
      where
        known : (k : ℕ) (b : Bool) → u k ≡ b → is_submitted (if b then (view first).job (id k) else unknown) ≡ true → u k ≡ true
        known k true e t = e
        known k false e t = cc

    same_id : (x : StampValue) → x.site ≡ site → id x.counter ≡ x
    same_id x at = (λ i. record { counter = x.counter; site = sym at i })

    pub settled_retired : CanRetireSettled n events site who
    settled_retired = record {
      ranges = hits ++ others;
      few = (let a = number in let b : length (hits ++ others) ≡ length hits + length others = simp length-append in omega arith);
      done = all_done.done;
      jobs = λ job at. subst (λ (x : StampValue). (view (held (hits ++ others))).job x ≡ (if is_unsettled (view first) site x then (view first).job x else unknown)) (same_id job at) (jobs_then job.counter);
      reservations = λ x at. subst (λ (x : StampValue). (view (held (hits ++ others))).reservation x ≡ (if is_unsettled (view first) site x then (view first).reservation x else None)) (same_id x at) (reservations_then x.counter);
      room = λ late asker values held_too short. (let a = few_jobs in room_left n (then_events (hits ++ others)) late site asker values held_too few (omega arith));
    }
