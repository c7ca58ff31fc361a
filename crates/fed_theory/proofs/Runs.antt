-- What every run keeps.
use Rattle.std.specs.Prelude.{if◌then◌else◌, nat_lt, Option, Some, None, slice_get, is_some, count_by, nat_le}
use Rattle.std.specs.List.{range_with_len}
use Rattle.std.proofs.Common.{◌≡◌, ℕ, zero, suc, ◌≤◌, ◌<◌, ◌==◌, List, [], ◌∷◌, ◌++◌, Bool, true, false, ◌&&◌, refl, sym, ap, subst, ◌∙◌, inl, inr, arith}
use Rattle.std.proofs.lemmas.Bool.{cases_Bool, cond-true, eq-eqb, eqb-true, ltb-true, le-leb, and_parts, and_from, both_ways}
use Rattle.std.proofs.Math.Nat.{le_trans}
use Rattle.fed_stamp.specs.declared.stamps.TheConstants.{MAX_COUNTER}
use Rattle.fed_stamp.specs.Indexes.{put}
use Rattle.fed_stamp.specs.Stamp.{StampValue}
use Rattle.fed_stamp.specs.Version.{counter_of, is_below, joined}
use Rattle.fed_stamp.proofs.VersionLaws.{below_itself, below_trans, joined_least}
use Rattle.fed_lattice.specs.Sets.{Has, Includes}
use Rattle.fed_lattice.specs.SetLaws.{Has-left, Has-right, Has-last, Has-push}
use Rattle.fed_lattice.specs.History.{History}
use Rattle.fed_lattice.specs.VersionOf.{version_of}
use Rattle.fed_lattice.proofs.VersionOfLaws.{version_of-origin}
use Rattle.fed_model.specs.declared.askers.Who.{Who}
use Rattle.fed_model.specs.declared.commands.Command.{Command}
use Rattle.fed_model.specs.Body.{Body, Body.Submit, Body.OfJob, JobBody.Grant, JobBody.Begin, JobBody.Finish, Body.Reserve, Body.Cancel, Body.Retire, is_of_reservation, of_reservation}
use Rattle.fed_model.specs.Field.{window_in}
use Rattle.fed_model.specs.Reservation.{reservation_view}
use Rattle.fed_lattice.specs.ExactLaws.{same_stamp_is}
use Rattle.fed_lattice.specs.Latest.{is_before}
use Rattle.fed_lattice.proofs.FilterLaws.{Has-filter}
use Rattle.fed_theory.proofs.FoundLaws.{some_found, field_found}
use Rattle.fed_theory.proofs.SubmitLaws.{standing_whole}
use Rattle.fed_model.specs.Letter.{is_submitted}
use Rattle.fed_model.specs.Retired.{retires, is_retired, starts}
use Rattle.fed_model.specs.View.{view, HasSubmit, HasReserve}
use Rattle.fed_model.specs.Lawful.{IsGrounded, IsHolder, IsLawful}
use Rattle.fed_model.specs.declared.beginnings.Beginning.{Beginning}
use Rattle.fed_theory.specs.MayFollow.{MayFollow}
use Rattle.fed_theory.proofs.GrowthLaws.{lawful_push}
use Rattle.fed_theory.proofs.LawfulLaws.{grounded_more}
use Rattle.fed_theory.proofs.VersionGrowth.{zeros_below}
use Rattle.fed_model.specs.Answer.{Answer, Answer.Refuses, Answer.Replies, answer}
use Rattle.fed_model.specs.Packet.{Site, Packet, shipped, missing, taken, takes_unless}
use Rattle.fed_model.specs.Origin.{jobs_of, ranges_of, reservations_of}
use Rattle.fed_theory.proofs.Allowed.{IsPlaced, IsAllowed, IsLive, IsOver, IsClosing, answer_allowed}
use Rattle.fed_theory.proofs.RetiredLaws.{retirement, retired_by, retiring}
use Rattle.fed_theory.proofs.Prefixes.{is_own, made_upto, own_upto, whole_own, upto_kept, upto_added, upto_own}
use Rattle.fed_theory.proofs.NextStamps.{IsNext, fresh_next, counter_below, before_counter}
use Rattle.fed_theory.proofs.OriginCounts.{IsCountable, lawful_countable, fewer_countable, HasSameOwn, HasReserves, identifier, lawful_reserves, own_jobs, own_ranges, own_reservations}
use Rattle.fed_theory.proofs.Room.{jobs_room, ranges_room, reservations_room}
use Rattle.fed_model.specs.declared.events.Event.{Event}
use Rattle.fed_model.specs.declared.events.Event.TheVariants.{Do, Ship, Take}
use Rattle.fed_model.specs.declared.outcomes.Outcome.{Outcome}
use Rattle.fed_model.specs.declared.capacities.TheConstants.{MAX_JOBS, MAX_RANGES, MAX_RESERVATIONS}
use Rattle.fed_model.specs.Exchange.{IsQuiet}
use Rattle.fed_model.specs.Run.{World, start, with_site, with_operation, packet, Step, stays, does, ships, receives, takes, step, run_from, run, outcomes_from, outcomes}
use Rattle.fed_theory.proofs.Cuts.{AreCounted, IsCut, placed_more, version_more, cut_nothing, cut_union, cut_lawful}
use Rattle.fed_theory.proofs.Growth.{HasOwn, may, lawful_more, cut_kept, cut_more}

-- ---- a table of sites with one entry changed
pub put_cases : {T : Type 0} (P : ℕ → T → Type 0) (f : ℕ → T) (i : ℕ) (t : T) → P i t → ((j : ℕ) → P j (f j)) → (j : ℕ) → P j (put f i t j)
put_cases {T} P f i t h k j = elim (cases_Bool (j == i)) [
  | inl e ↦ subst (λ b. P j (if b then t else f j)) (sym e) (subst (λ n. P n t) (sym (eqb-true j i e)) h)
  | inr e ↦ subst (λ b. P j (if b then t else f j)) (sym e) (k j)
]

pub put_same : {T : Type 0} (f : ℕ → T) (i : ℕ) (t : T) → put f i t i ≡ t
put_same f i t = cond-true (i == i) t (f i) (eq-eqb i i refl)

-- ---- the sets of a world grow
abbrev pub Grows : World → World → Type 0
Grows w v = (i : ℕ) → Includes (v.site i).set (w.site i).set

grows_itself : (w : World) → Grows w w
grows_itself w i e h = h

-- where one site has a set that grows
site_grows : (w : World) (i : ℕ) (s : Site) → Includes s.set (w.site i).set → Grows w (with_site w i s)
site_grows w i s more = put_cases (λ j t. Includes t.set (w.site j).set) w.site i s more (λ j e h. h)

-- ---- what every run keeps
-- a packet that was made: a cut of the history, which its sender has
pub record IsSent (history : History Body) (w : World) (p : Packet) : Type 0 where
  pub cut : IsCut history p.gives
  pub reached : is_below p.reached (version_of (w.site p.sender).set) ≡ true
  pub exact : p.reached ≡ version_of p.gives
  pub need : is_below p.need p.reached ≡ true

pub record IsGood (history : History Body) (w : World) : Type 0 where
  pub lawful : IsLawful history
  pub counted : AreCounted history
  pub cuts : (i : ℕ) → IsCut history (w.site i).set
  pub own : (i : ℕ) → HasOwn history (w.site i).set i
  pub heard : (i from : ℕ) → is_below ((w.site i).heard from) (version_of (w.site from).set) ≡ true
  pub known : (i from : ℕ) → is_below ((w.site i).heard from) (version_of (w.site i).set) ≡ true
  pub jobs : (i counter : ℕ) → jobs_of (view (made_upto i counter history)) i ≤ MAX_JOBS
  pub ranges : (i counter : ℕ) → ranges_of (view (made_upto i counter history)) i ≤ MAX_RANGES
  pub closed : (e : StampValue × Body) (job : StampValue) → Has history e → retires job e ≡ true → HasSubmit history job → IsOver history job.site job
  pub reservations : (i counter : ℕ) → reservations_of (view (made_upto i counter history)) i ≤ MAX_RESERVATIONS
  pub cancelled : (e : StampValue × Body) (id : StampValue) → Has history e → retires id e ≡ true → HasReserve history id → (s : StampValue) × Has history (s, Cancel id)
  pub sent : (p : Packet) → Has w.packets p → IsSent history w p

-- at some history
abbrev pub Good : World → Type 0
Good w = (history : History Body) × IsGood history w

nothing_lawful : IsLawful []
nothing_lawful = record {
  sites = λ e h. absurd h;
  distinct = λ e f h k. absurd h;
  grounded = λ e h. absurd h;
  one_begin = λ job s t a b h k. absurd h;
  one_finish = λ job s t a b h k. absurd h;
  one_grant = λ job s t a b term h k. absurd h;
  one_return = λ job s t term h k. absurd h;
  begun_held = λ job s a h. absurd h;
}

no_jobs : (i : ℕ) → jobs_of (view []) i ≤ MAX_JOBS
no_jobs i =
    let none : History Body = [] in
    elim (version_of-origin none i) [
      | inl z ↦ subst (λ n. count_by (λ counter. is_submitted ((view none).job (record { counter = counter; site = i }))) (range_with_len 0 (suc n)) ≤ MAX_JOBS) (sym z) (omega arith)
      | inr o ↦ absurd o.1
    ]

no_ranges : (i : ℕ) → ranges_of (view []) i ≤ MAX_RANGES
no_ranges i =
    let none : History Body = [] in
    elim (version_of-origin none i) [
      | inl z ↦ subst (λ n. count_by (λ counter. starts (is_retired none) (record { counter = counter; site = i })) (range_with_len 0 (suc n)) ≤ MAX_RANGES) (sym z) (omega arith)
      | inr o ↦ absurd o.1
    ]

no_reservations : (i : ℕ) → reservations_of (view []) i ≤ MAX_RESERVATIONS
no_reservations i =
    let none : History Body = [] in
    elim (version_of-origin none i) [
      | inl z ↦ subst (λ n. count_by (λ counter. is_some ((view none).reservation (record { counter = counter; site = i }))) (range_with_len 0 (suc n)) ≤ MAX_RESERVATIONS) (sym z) (omega arith)
      | inr o ↦ absurd o.1
    ]

pub start_good : Good start
start_good = (
  [],
  record {
    lawful = nothing_lawful;
    counted = λ e h. absurd h;
    cuts = λ i. cut_nothing [] (λ e h. absurd h);
    own = λ i e h. absurd h;
    heard = λ i from. zeros_below 16 _;
    known = λ i from. zeros_below 16 _;
    jobs = λ i counter. no_jobs i;
    ranges = λ i counter. no_ranges i;
    closed = λ e job h. absurd h;
    reservations = λ i counter. no_reservations i;
    cancelled = λ e id h. absurd h;
    sent = λ p h. absurd h;
  },
)

module _ (history : History Body) (w v : World) (good : IsGood history w) (more : Grows w v) where
  version_grows : (i : ℕ) → is_below (version_of (w.site i).set) (version_of (v.site i).set) ≡ true
  version_grows i = version_more (w.site i).set (v.site i).set (more i) (cut_lawful history (w.site i).set good.lawful (good.cuts i)).sites

  still_below : (u : List ℕ) (i : ℕ) → is_below u (version_of (w.site i).set) ≡ true → is_below u (version_of (v.site i).set) ≡ true
  still_below u i h = below_trans u (version_of (w.site i).set) (version_of (v.site i).set) h (version_grows i)

-- what a site has placed is placed in the history
pub placed_all : (history : History Body) (w : World) → IsGood history w → (e : StampValue × Body) → Has history e → IsPlaced history e.0 e.1
placed_all history w good e h =
    let c = good.cuts e.0.site in
    placed_more (w.site e.0.site).set history c.within e.0 e.1 (c.placed e (good.own e.0.site e h refl))

-- ---- counts of what one site made
module _ (history : History Body) (l : IsLawful history) where
  upto_countable : (site counter : ℕ) → IsCountable (made_upto site counter history)
  upto_countable site counter = fewer_countable (made_upto site counter history) history (lawful_countable history l) (λ e h. (own_upto site counter history e h).0)

  cut_own : (ops : History Body) → IsCut history ops → (site : ℕ) → HasSameOwn ops (made_upto site (counter_of (version_of ops) site) history) site
  cut_own ops cut site = whole_own history ops (λ e h. l.sites e (cut.within e h)) cut.within cut.whole site

  pub cut_jobs : ((i counter : ℕ) → jobs_of (view (made_upto i counter history)) i ≤ MAX_JOBS) → (ops : History Body) → IsCut history ops → (site : ℕ) → jobs_of (view ops) site ≤ MAX_JOBS
  cut_jobs few ops cut site =
      let counter : ℕ = counter_of (version_of ops) site in
      let least = own_jobs ops (made_upto site counter history) site (cut_own ops cut site) (upto_countable site counter) in
      let most = few site counter in omega arith

  pub cut_ranges : ((i counter : ℕ) → ranges_of (view (made_upto i counter history)) i ≤ MAX_RANGES) → (ops : History Body) → IsCut history ops → (site : ℕ) → ranges_of (view ops) site ≤ MAX_RANGES
  cut_ranges few ops cut site =
      let counter : ℕ = counter_of (version_of ops) site in
      let least = own_ranges ops (made_upto site counter history) site (cut_own ops cut site) (upto_countable site counter) in
      let most = few site counter in omega arith

  -- what a site has cancelled of its own it reserved before
  pub upto_reserves : (site counter : ℕ) → HasReserves (made_upto site counter history) site
  upto_reserves site counter k e =
      let part : History Body = made_upto site counter history in
      let o = some_found (reservation_view (of_reservation (identifier site k) part)) (standing_whole part (identifier site k) e).1 in
      let f = field_found window_in (of_reservation (identifier site k) part) o.0 o.1 in
      let m = Has-filter (is_of_reservation (identifier site k)) part (o.0.0, f.0) f.1 in
      let own = own_upto site counter history (o.0.0, f.0) m.0 in
      go o.0.0 f.0 own.0 own.1 own.2 m.1 (l.grounded (o.0.0, f.0) own.0)
    where
      go : (t : StampValue) (body : Body) → Has history (t, body) → t.site ≡ site → t.counter ≤ counter → is_of_reservation (identifier site k) (t, body) ≡ true → IsGrounded history t body → HasReserve (made_upto site counter history) (identifier site k)
      go t (Reserve window) h at low of g =
          (window, subst (λ (n : StampValue). Has (made_upto site counter history) (n, Reserve window)) (same_stamp_is t (identifier site k) of) (upto_own site counter history (t, Reserve window) h at low))
      go t (Cancel other) h at low of g =
          let is : other ≡ identifier site k = same_stamp_is other (identifier site k) of in
          let r : Has history (identifier site k, Reserve g.0) = subst (λ (n : StampValue). Has history (n, Reserve g.0)) is g.1.0 in
          let before : is_before (identifier site k) t ≡ true = subst (λ (n : StampValue). is_before n t ≡ true) is g.1.1 in
          let le : k ≤ t.counter = before_counter (identifier site k) t before in
          (g.0, upto_own site counter history (identifier site k, Reserve g.0) r refl (omega arith))
      go t _ h at low of g = cc

  pub cut_reservations : ((i counter : ℕ) → reservations_of (view (made_upto i counter history)) i ≤ MAX_RESERVATIONS) → (ops : History Body) → IsCut history ops → (site : ℕ) → reservations_of (view ops) site ≤ MAX_RESERVATIONS
  cut_reservations few ops cut site =
      let counter : ℕ = counter_of (version_of ops) site in
      let least = own_reservations ops (made_upto site counter history) site (cut_own ops cut site) (upto_countable site counter) (lawful_reserves ops (cut_lawful history ops l cut) site) (upto_reserves site counter) in
      let most = few site counter in omega arith

-- ---- an operation is added
module _ (w : World) (here : ℕ) (small : here < 16) (history : History Body) (good : IsGood history w) (new : StampValue × Body)
    (next : IsNext (version_of (w.site here).set) here new.0) (allowed : IsAllowed (w.site here).set new.0 new.1) where
  ops : History Body
  ops = (w.site here).set

  after : World
  after = with_site w here (with_operation (w.site here) new)

  placed : (e : StampValue × Body) → Has history e → IsPlaced history e.0 e.1
  placed = placed_all history w good

  added_grows : Grows w after
  unfolding after
  added_grows = site_grows w here (with_operation (w.site here) new) (Has-left (w.site here).set (new ∷ []))

  kept : (others : History Body) → IsCut history others → IsCut (history ++ new ∷ []) others
  kept = cut_kept history (w.site here).set here new good.lawful good.counted placed (good.cuts here) (good.own here) next allowed

  own_more : (i : ℕ) → HasOwn (history ++ new ∷ []) (after.site i).set i
  unfolding after
  own_more i e h at = elim (Has-push history new e h) [
    | inl k ↦ added_grows i e (good.own i e k at)
    | inr q ↦ (
        let is : i ≡ here = sym at ∙ ap (λ (x : StampValue × Body). x.0.site) (sym q) ∙ next.site in
        let mine : Has (put w.site here (with_operation (w.site here) new) here).set new =
        subst (λ (s : Site). Has s.set new) (sym (put_same w.site here (with_operation (w.site here) new))) (Has-last (w.site here).set new) in
        subst (Has (put w.site here (with_operation (w.site here) new) i).set) q (subst (λ (j : ℕ). Has (put w.site here (with_operation (w.site here) new) j).set new) (sym is) mine))
  ]

  old_lawful : IsLawful (w.site here).set
  old_lawful = cut_lawful history (w.site here).set good.lawful (good.cuts here)

  new_lawful : IsLawful ((w.site here).set ++ new ∷ [])
  new_lawful = lawful_push (w.site here).set new old_lawful (fresh_next (w.site here).set old_lawful.sites here new.0 next)
      (grounded_more (w.site here).set ((w.site here).set ++ new ∷ []) (Has-left (w.site here).set (new ∷ [])) new.0 new.1 allowed.grounded) allowed.may (let at = next.site in omega arith)

  below_new : (e : StampValue × Body) → Has (w.site here).set e → e.0.counter < new.0.counter
  below_new e h = counter_below (w.site here).set old_lawful.sites here new.0 next e h

  own_site : (i counter : ℕ) → is_own i counter new ≡ true → i ≡ new.0.site
  own_site i counter own = sym (eqb-true new.0.site i (and_parts (new.0.site == i) (nat_le new.0.counter counter) own).0)

  added_own : (i counter : ℕ) → is_own i counter new ≡ true → HasSameOwn (made_upto i counter (history ++ new ∷ [])) ((w.site here).set ++ new ∷ []) i
  added_own i counter own = upto_added i counter history (w.site here).set new own (good.cuts here).within
      (λ e h at. good.own here e h (at ∙ own_site i counter own ∙ next.site)) below_new

  -- ---- jobs that are retired stay over
  -- no job is granted that is retired: its origin knows
  not_granted : (e : StampValue × Body) (job : StampValue) → Has history e → retires job e ≡ true → (t : StampValue) (other term : ℕ) → new ≡ (t, OfJob job (Grant other term)) → ⊥
  not_granted e job h r t other term q =
      let live : is_retired (w.site here).set job ≡ false = subst (λ (x : StampValue × Body). IsLive (w.site here).set x.1) q allowed.live in
      let origin : t.site ≡ job.site = subst (λ (x : StampValue × Body). IsPlaced (w.site here).set x.0 x.1) q allowed.placed in
      let at : e.0.site ≡ here = (retirement e job r).site ∙ sym origin ∙ ap (λ (x : StampValue × Body). x.0.site) (sym q) ∙ next.site in
      both_ways _ live (retired_by (w.site here).set job e (good.own here e h at) r)

  -- nor does one begin
  not_begun : (e : StampValue × Body) (job : StampValue) → Has history e → retires job e ≡ true → IsOver history job.site job → (t : StampValue) (a : Beginning) → new ≡ (t, OfJob job (Begin a)) → ⊥
  not_begun e job h r over t a q =
      let live : is_retired (w.site here).set job ≡ false = subst (λ (x : StampValue × Body). IsLive (w.site here).set x.1) q allowed.live in
      let m : MayFollow history t (OfJob job (Begin a)) =
      subst (λ (x : StampValue × Body). MayFollow history x.0 x.1) q (may history (w.site here).set here new good.lawful good.counted placed (good.cuts here) (good.own here) next allowed) in
      elim over [
        | inl f ↦ (let b = (good.lawful.grounded (f.0, OfJob job (Finish f.1)) f.2).1 in m.0 b.0 b.1 b.2)
        | inr idle ↦ (
            let origin = idle.1 t.site m.1 in
            let at : e.0.site ≡ here = (retirement e job r).site ∙ sym origin ∙ ap (λ (x : StampValue × Body). x.0.site) (sym q) ∙ next.site in
            both_ways _ live (retired_by (w.site here).set job e (good.own here e h at) r))
      ]

  over_more : (job : StampValue) → ((t : StampValue) (other term : ℕ) → new ≡ (t, OfJob job (Grant other term)) → ⊥) → ((t : StampValue) (a : Beginning) → new ≡ (t, OfJob job (Begin a)) → ⊥) → IsOver history job.site job → IsOver (history ++ new ∷ []) job.site job
  over_more job none idle (inl f) = inl (f.0, f.1, Has-left history (new ∷ []) _ f.2)
  over_more job none idle (inr only) = inr (
    λ s a h. elim (Has-push history new (s, OfJob job (Begin a)) h) [ inl k ↦ only.0 s a k | inr q ↦ idle s a q ],
    λ site h. only.1 site (record {
      stamp = h.stamp;
      term = h.term;
      granted = elim (Has-push history new (h.stamp, OfJob job (Grant site h.term)) h.granted) [ inl k ↦ k | inr q ↦ absurd (none h.stamp site h.term q) ];
      greatest = λ s other k g. h.greatest s other k (Has-left history (new ∷ []) _ g);
      kept = λ s g. h.kept s (Has-left history (new ∷ []) _ g);
    }),
    (only.2.0, Has-left history (new ∷ []) _ only.2.1),
  )

  -- who holds the grant holds it by what its origin knows
  held_here : (job : StampValue) → job.site ≡ here → (site : ℕ) → IsHolder history job site → IsHolder (w.site here).set job site
  held_here job at site h = record {
    stamp = h.stamp;
    term = h.term;
    granted = good.own here _ h.granted (placed (h.stamp, OfJob job (Grant site h.term)) h.granted ∙ at);
    greatest = λ s other k g. h.greatest s other k ((good.cuts here).within _ g);
    kept = λ s g. h.kept s ((good.cuts here).within _ g);
  }

  -- what its origin knows to be over is over
  over_all : (job : StampValue) → job.site ≡ here → IsOver (w.site here).set here job → IsOver history job.site job
  over_all job at (inl f) = inl (f.0, f.1, (good.cuts here).within _ f.2)
  over_all job at (inr only) = inr (
    λ s a h. only.0 s a (good.own here _ h (only.1 s.site (held_here job at s.site (good.lawful.begun_held job s a h)))),
    λ site h. only.1 site (held_here job at site h) ∙ sym at,
    (only.2.0, (good.cuts here).within _ only.2.1),
  )

  submitted_old : (job : StampValue) → (new.0 ≡ job → ⊥) → HasSubmit (history ++ new ∷ []) job → HasSubmit history job
  submitted_old job other s = elim (Has-push history new (job, Submit s.0 s.1 s.2) s.3) [
    | inl k ↦ (s.0, s.1, s.2, k)
    | inr q ↦ absurd (other (ap (λ (x : StampValue × Body). x.0) q))
  ]

  -- what is retired was made before
  counter_low : (e : StampValue × Body) (job : StampValue) → IsGrounded history e.0 e.1 → retires job e ≡ true → job.counter < e.0.counter
  counter_low e job g r =
      let f = retirement e job r in
      let k : IsGrounded history e.0 (Retire f.first f.last) = subst (λ (x : StampValue × Body). IsGrounded history x.0 x.1) f.is g in
      let high = f.high in
      let below = k.2 in omega arith

  reserved_old : (id : StampValue) → (new.0 ≡ id → ⊥) → HasReserve (history ++ new ∷ []) id → HasReserve history id
  reserved_old id other s = elim (Has-push history new (id, Reserve s.0) s.1) [
    | inl k ↦ (s.0, k)
    | inr q ↦ absurd (other (ap (λ (x : StampValue × Body). x.0) q))
  ]

  all_lawful : IsLawful (history ++ new ∷ [])
  all_lawful = lawful_more history (w.site here).set here new good.lawful good.counted placed (good.cuts here) (good.own here) next allowed small

  -- what an old Retire or the new one retires is not made by the new operation
  not_made : (e : StampValue × Body) (id : StampValue) → Has (history ++ new ∷ []) e → retires id e ≡ true → new.0 ≡ id → ⊥
  not_made e id h r q = elim (Has-push history new e h) [
    | inl k ↦ (
        let low = counter_low e id (good.lawful.grounded e k) r in
        let at : e.0.site ≡ here = (retirement e id r).site ∙ ap (λ (x : StampValue). x.site) (sym q) ∙ next.site in
        let up = below_new e (good.own here e k at) in
        let same : new.0.counter ≡ id.counter = ap (λ (x : StampValue). x.counter) q in omega arith)
    | inr p ↦ (
        let low = counter_low new id (grounded_more (w.site here).set history (good.cuts here).within new.0 new.1 allowed.grounded) (subst (λ x. retires id x ≡ true) (sym p) r) in
        let same : new.0.counter ≡ id.counter = ap (λ (x : StampValue). x.counter) q in omega arith)
  ]

  new_cancelled : (id : StampValue) → retires id new ≡ true → HasReserve history id → (s : StampValue) × Has history (s, Cancel id)
  new_cancelled id r s =
      let f = retirement new id r in
      let at : id.site ≡ here = sym f.site ∙ next.site in
      let closing : IsClosing (w.site here).set new.0 (Retire f.first f.last) = subst (λ (x : StampValue × Body). IsClosing (w.site here).set x.0 x.1) f.is allowed.closing in
      let within = and_from (nat_le f.first id.counter) (nat_le id.counter f.last) (le-leb f.first id.counter f.low) (le-leb id.counter f.last f.high) in
      elim (closing.1 id (sym f.site) within (s.0, good.own here _ s.1 at)) [
        | inl y ↦ (let g = retiring (w.site here).set id y in good.cancelled g.0 id ((good.cuts here).within g.0 g.1) g.2 s)
        | inr o ↦ (o.0, (good.cuts here).within _ o.1)
      ]

  still_cancelled : (e : StampValue × Body) (id : StampValue) → Has (history ++ new ∷ []) e → retires id e ≡ true → HasReserve (history ++ new ∷ []) id → (s : StampValue) × Has (history ++ new ∷ []) (s, Cancel id)
  still_cancelled e id h r s =
      let made = reserved_old id (not_made e id h r) s in
      elim (Has-push history new e h) [
        | inl k ↦ (let c = good.cancelled e id k r made in (c.0, Has-left history (new ∷ []) _ c.1))
        | inr q ↦ (let c = new_cancelled id (subst (λ x. retires id x ≡ true) (sym q) r) made in (c.0, Has-left history (new ∷ []) _ c.1))
      ]

  new_closed : (job : StampValue) → retires job new ≡ true → HasSubmit history job → IsOver history job.site job
  new_closed job r s =
      let f = retirement new job r in
      let at : job.site ≡ here = sym f.site ∙ next.site in
      let closing : IsClosing (w.site here).set new.0 (Retire f.first f.last) = subst (λ (x : StampValue × Body). IsClosing (w.site here).set x.0 x.1) f.is allowed.closing in
      let within = and_from (nat_le f.first job.counter) (nat_le job.counter f.last) (le-leb f.first job.counter f.low) (le-leb job.counter f.last f.high) in
      let mine : HasSubmit (w.site here).set job = (s.0, s.1, s.2, good.own here _ s.3 at) in
      elim (closing.0 job (sym f.site) within mine) [
        | inl y ↦ (let g = retiring (w.site here).set job y in good.closed g.0 job ((good.cuts here).within g.0 g.1) g.2 s)
        | inr o ↦ over_all job at (subst (λ n. IsOver (w.site here).set n job) next.site o)
      ]

  still_closed : (e : StampValue × Body) (job : StampValue) → Has (history ++ new ∷ []) e → retires job e ≡ true → HasSubmit (history ++ new ∷ []) job → IsOver (history ++ new ∷ []) job.site job
  still_closed e job h r s = elim (Has-push history new e h) [
    | inl k ↦ (
        let low = counter_low e job (good.lawful.grounded e k) r in
        let fresh : new.0 ≡ job → ⊥ = λ q.
        let at : e.0.site ≡ here = (retirement e job r).site ∙ ap (λ (x : StampValue). x.site) (sym q) ∙ next.site in
        let up = below_new e (good.own here e k at) in
        let same : new.0.counter ≡ job.counter = ap (λ (x : StampValue). x.counter) q in omega arith in
        let old = good.closed e job k r (submitted_old job fresh s) in
        over_more job (not_granted e job k r) (not_begun e job k r old) old)
    | inr q ↦ (
        let retiring_new : retires job new ≡ true = subst (λ x. retires job x ≡ true) (sym q) r in
        let f = retirement new job retiring_new in
        let fresh : new.0 ≡ job → ⊥ = λ p.
        let low = counter_low new job (grounded_more (w.site here).set history (good.cuts here).within new.0 new.1 allowed.grounded) retiring_new in
        let same : new.0.counter ≡ job.counter = ap (λ (x : StampValue). x.counter) p in omega arith in
        let none : (t : StampValue) (other term : ℕ) → new ≡ (t, OfJob job (Grant other term)) → ⊥ = λ t other term p.
        let b : ◌≡◌ {A = Body} (Retire f.first f.last) (OfJob job (Grant other term)) = ap (λ (x : StampValue × Body). x.1) (sym f.is ∙ p) in cc in
        let idle : (t : StampValue) (a : Beginning) → new ≡ (t, OfJob job (Begin a)) → ⊥ = λ t a p.
        let b : ◌≡◌ {A = Body} (Retire f.first f.last) (OfJob job (Begin a)) = ap (λ (x : StampValue × Body). x.1) (sym f.is ∙ p) in cc in
        over_more job none idle (new_closed job retiring_new (submitted_old job fresh s)))
  ]

  pub added_good : IsGood (history ++ new ∷ []) (with_site w here (with_operation (w.site here) new))
  unfolding after
  added_good = record {
    lawful = lawful_more history (w.site here).set here new good.lawful good.counted placed (good.cuts here) (good.own here) next allowed small;
    counted = λ e h. elim (Has-push history new e h) [
      | inl k ↦ good.counted e k
      | inr q ↦ subst (λ (x : StampValue × Body). (0 < x.0.counter) × (x.0.counter ≤ MAX_COUNTER)) q (let c = next.counter in (omega arith, next.counted))
    ];
    cuts = put_cases (λ j s. IsCut (history ++ new ∷ []) s.set) w.site here (with_operation (w.site here) new)
        (cut_more history (w.site here).set here new good.lawful good.counted placed (good.cuts here) (good.own here) next allowed)
        (λ j. kept (w.site j).set (good.cuts j));
    own = own_more;
    known = put_cases (λ j (s : Site). (from : ℕ) → is_below (s.heard from) (version_of s.set) ≡ true) w.site here (with_operation (w.site here) new)
        (λ from. below_trans ((w.site here).heard from) (version_of (w.site here).set) (version_of ((w.site here).set ++ new ∷ [])) (good.known here from)
        (version_more (w.site here).set ((w.site here).set ++ new ∷ []) (Has-left (w.site here).set (new ∷ [])) old_lawful.sites))
        good.known;
    jobs = λ i counter. elim (cases_Bool (is_own i counter new)) [
      | inl own ↦ (
          let few = own_jobs (made_upto i counter (history ++ new ∷ [])) ((w.site here).set ++ new ∷ []) i (added_own i counter own) (lawful_countable ((w.site here).set ++ new ∷ []) new_lawful) in
          let most = jobs_room (w.site here).set new old_lawful new_lawful allowed.limited (cut_jobs history good.lawful good.jobs (w.site here).set (good.cuts here) new.0.site) in
          let at : i ≡ new.0.site = own_site i counter own in
          let here_most : jobs_of (view ((w.site here).set ++ new ∷ [])) i ≤ MAX_JOBS = subst (λ n. jobs_of (view ((w.site here).set ++ new ∷ [])) n ≤ MAX_JOBS) (sym at) most in omega arith)
      | inr apart ↦ subst (λ l. jobs_of (view l) i ≤ MAX_JOBS) (sym (upto_kept i counter history new apart)) (good.jobs i counter)
    ];
    ranges = λ i counter. elim (cases_Bool (is_own i counter new)) [
      | inl own ↦ (
          let few = own_ranges (made_upto i counter (history ++ new ∷ [])) ((w.site here).set ++ new ∷ []) i (added_own i counter own) (lawful_countable ((w.site here).set ++ new ∷ []) new_lawful) in
          let most = ranges_room (w.site here).set new old_lawful new_lawful allowed.limited (cut_ranges history good.lawful good.ranges (w.site here).set (good.cuts here) new.0.site) in
          let at : i ≡ new.0.site = own_site i counter own in
          let here_most : ranges_of (view ((w.site here).set ++ new ∷ [])) i ≤ MAX_RANGES = subst (λ n. ranges_of (view ((w.site here).set ++ new ∷ [])) n ≤ MAX_RANGES) (sym at) most in omega arith)
      | inr apart ↦ subst (λ l. ranges_of (view l) i ≤ MAX_RANGES) (sym (upto_kept i counter history new apart)) (good.ranges i counter)
    ];
    closed = still_closed;
    reservations = λ i counter. elim (cases_Bool (is_own i counter new)) [
      | inl own ↦ (
          let few = own_reservations (made_upto i counter (history ++ new ∷ [])) ((w.site here).set ++ new ∷ []) i (added_own i counter own) (lawful_countable ((w.site here).set ++ new ∷ []) new_lawful) (upto_reserves (history ++ new ∷ []) all_lawful i counter) (lawful_reserves ((w.site here).set ++ new ∷ []) new_lawful i) in
          let most = reservations_room (w.site here).set new old_lawful new_lawful allowed.limited (cut_reservations history good.lawful good.reservations (w.site here).set (good.cuts here) new.0.site) in
          let at : i ≡ new.0.site = own_site i counter own in
          let here_most : reservations_of (view ((w.site here).set ++ new ∷ [])) i ≤ MAX_RESERVATIONS = subst (λ n. reservations_of (view ((w.site here).set ++ new ∷ [])) n ≤ MAX_RESERVATIONS) (sym at) most in omega arith)
      | inr apart ↦ subst (λ l. reservations_of (view l) i ≤ MAX_RESERVATIONS) (sym (upto_kept i counter history new apart)) (good.reservations i counter)
    ];
    cancelled = still_cancelled;
    heard = put_cases (λ j (s : Site). (from : ℕ) → is_below (s.heard from) (version_of (after.site from).set) ≡ true) w.site here (with_operation (w.site here) new)
        (λ from. still_below history w after good added_grows ((w.site here).heard from) from (good.heard here from))
        (λ j from. still_below history w after good added_grows ((w.site j).heard from) from (good.heard j from));
    sent = λ p h. let s = good.sent p h in record {
      cut = kept p.gives s.cut;
      reached = still_below history w after good added_grows p.reached p.sender s.reached;
      exact = s.exact;
      need = s.need;
    };
  }

does_good : (w : World) (here : ℕ) (who : Who) (command : Command) (said : Answer) → here < 16 → answer (w.site here).set here who command ≡ said → Good w → Good (does w here said).after
does_good w here who command (Refuses refusal) small is g = g
does_good w here who command (Replies reply None) small is g = g
does_good w here who command (Replies reply (Some new)) small is g =
    let a = answer_allowed (w.site here).set (cut_lawful g.0 (w.site here).set g.1.lawful (g.1.cuts here)) here who command reply new is in
    (g.0 ++ new ∷ [], added_good w here small g.0 g.1 new a.0 a.1)

-- ---- a packet is made
shipped_good : (history : History Body) (w : World) (here to : ℕ) → IsGood history w → IsGood history (ships w here to).after
shipped_good history w here to good = record {
  lawful = good.lawful;
  counted = good.counted;
  cuts = good.cuts;
  own = good.own;
  heard = good.heard;
  known = good.known;
  jobs = good.jobs;
  ranges = good.ranges;
  closed = good.closed;
  reservations = good.reservations;
  cancelled = good.cancelled;
  sent = λ p h. elim (Has-push w.packets (shipped here (w.site here) to) p h) [
    | inl k ↦ (let s = good.sent p k in record { cut = s.cut; reached = s.reached; exact = s.exact; need = s.need })
    | inr e ↦ subst (λ q. IsSent history (ships w here to).after q) e
        (record { cut = good.cuts here; reached = below_itself (version_of (w.site here).set); exact = refl; need = good.known here to })
  ];
}

-- ---- a packet is taken
pub packet_Has : (w : World) (k : ℕ) (p : Packet) → packet w k ≡ Some p → Has w.packets p
packet_Has w zero p e = cc
packet_Has w (suc k) p e = go w.packets k e
  where
    go : (xs : List Packet) (i : ℕ) → slice_get xs i ≡ Some p → Has xs p
    go [] i e = cc
    go (x ∷ xs) zero e = inl cc
    go (x ∷ xs) (suc i) e = inr (go xs i e)

module _ (w : World) (here : ℕ) (p : Packet) (history : History Body) (good : IsGood history w) (s : IsSent history w p) where
  later : World
  later = with_site w here (taken (w.site here) p)

  taken_grows : Grows w later
  unfolding later
  taken_grows = site_grows w here (taken (w.site here) p) (Has-left (w.site here).set p.gives)

  both : History Body
  both = (w.site here).set ++ p.gives

  mine_lawful : IsLawful (w.site here).set
  mine_lawful = cut_lawful history (w.site here).set good.lawful (good.cuts here)

  mine_below : (from : ℕ) → is_below ((w.site here).heard from) (version_of both) ≡ true
  unfolding both
  mine_below from = below_trans ((w.site here).heard from) (version_of (w.site here).set) (version_of ((w.site here).set ++ p.gives)) (good.known here from)
      (version_more (w.site here).set ((w.site here).set ++ p.gives) (Has-left (w.site here).set p.gives) mine_lawful.sites)

  pub taken_good : IsGood history (with_site w here (taken (w.site here) p))
  unfolding later both
  taken_good = record {
    lawful = good.lawful;
    counted = good.counted;
    cuts = put_cases (λ j (t : Site). IsCut history t.set) w.site here (taken (w.site here) p) (cut_union history (w.site here).set p.gives (good.cuts here) s.cut) good.cuts;
    own = λ i e h at. taken_grows i e (good.own i e h at);
    known = put_cases (λ j (t : Site). (from : ℕ) → is_below (t.heard from) (version_of t.set) ≡ true) w.site here (taken (w.site here) p)
        (put_cases (λ from v. is_below v (version_of both) ≡ true) (w.site here).heard p.sender (joined ((w.site here).heard p.sender) p.reached)
        (joined_least ((w.site here).heard p.sender) p.reached (version_of both) (mine_below p.sender)
        (subst (λ v. is_below v (version_of both) ≡ true) (sym s.exact) (version_more p.gives both (Has-right (w.site here).set p.gives) (cut_lawful history p.gives good.lawful s.cut).sites)))
        mine_below)
        good.known;
    jobs = good.jobs;
    ranges = good.ranges;
    closed = good.closed;
    reservations = good.reservations;
    cancelled = good.cancelled;
    heard = put_cases (λ j (t : Site). (from : ℕ) → is_below (t.heard from) (version_of (later.site from).set) ≡ true) w.site here (taken (w.site here) p)
        (put_cases (λ from v. is_below v (version_of (later.site from).set) ≡ true) (w.site here).heard p.sender (joined ((w.site here).heard p.sender) p.reached)
        (joined_least ((w.site here).heard p.sender) p.reached (version_of (later.site p.sender).set)
        (still_below history w later good taken_grows ((w.site here).heard p.sender) p.sender (good.heard here p.sender))
        (still_below history w later good taken_grows p.reached p.sender s.reached))
        (λ from. still_below history w later good taken_grows ((w.site here).heard from) from (good.heard here from)))
        (λ j from. still_below history w later good taken_grows ((w.site j).heard from) from (good.heard j from));
    sent = λ q h. let t = good.sent q h in record {
      cut = t.cut;
      reached = still_below history w later good taken_grows q.reached q.sender t.reached;
      exact = t.exact;
      need = t.need;
    };
  }

received_good : (history : History Body) (w : World) (here : ℕ) (p : Packet) (lacks : Option ℕ) → Has w.packets p → IsGood history w → IsGood history (receives w here (takes_unless lacks (w.site here) p)).after
received_good history w here p (Some from) h good = good
received_good history w here p None h good = taken_good w here p history good (good.sent p h)

took_good : (history : History Body) (w : World) (here k : ℕ) → IsGood history w → IsGood history (takes w here (packet w k)).after
took_good history w here k good = go (packet w k) refl
  where
    go : (o : Option Packet) → packet w k ≡ o → IsGood history (takes w here o).after
    go None is = good
    go (Some p) is = received_good history w here p (missing p.need (version_of (w.site here).set)) (packet_Has w k p is) good

-- ---- one event
-- what holds of both outcomes of a test
pub either : (P : World → Type 0) (b : Bool) (x y : Step) → P x.after → P y.after → P (if b then x else y).after
either P true x y p q = p
either P false x y p q = q

pub either_if : (P : World → Type 0) (b : Bool) (x y : Step) → (b ≡ true → P x.after) → P y.after → P (if b then x else y).after
either_if P true x y p q = p refl
either_if P false x y p q = q

pub step_good : (n : ℕ) (w : World) (event : Event) → n ≤ 16 → Good w → Good (step n w event).after
step_good n w (Do site who command) few g =
    either_if Good (nat_lt site n) (does w site (answer (w.site site).set site who command)) (stays w Outcome.NoSite)
    (λ e. does_good w site who command (answer (w.site site).set site who command) (le_trans (ltb-true site n e) few) refl g) g
step_good n w (Ship site to) few g =
    either Good (nat_lt site n && nat_lt to n) (ships w site to) (stays w Outcome.NoSite) (g.0, shipped_good g.0 w site to g.1) g
step_good n w (Take site k) few g =
    either Good (nat_lt site n) (takes w site (packet w k)) (stays w Outcome.NoSite) (g.0, took_good g.0 w site k g.1) g

run_from_good : (n : ℕ) (w : World) (events : List Event) → n ≤ 16 → Good w → Good (run_from n w events)
run_from_good n w [] few g = g
run_from_good n w (event ∷ events) few g = run_from_good n (step n w event).after events few (step_good n w event few g)

-- where no command is done, the history stays as it is
pub quiet_good : (history : History Body) (n : ℕ) (w : World) (event : Event) → IsQuiet event → IsGood history w → IsGood history (step n w event).after
quiet_good history n w (Do site who command) quiet good = absurd quiet
quiet_good history n w (Ship site to) quiet good =
    either (IsGood history) (nat_lt site n && nat_lt to n) (ships w site to) (stays w Outcome.NoSite) (shipped_good history w site to good) good
quiet_good history n w (Take site k) quiet good =
    either (IsGood history) (nat_lt site n) (takes w site (packet w k)) (stays w Outcome.NoSite) (took_good history w site k good) good

pub run_good : (n : ℕ) (events : List Event) → n ≤ 16 → Good (run n events)
run_good n events few = run_from_good n start events few start_good

-- ---- sets only grow
does_grows : (w : World) (here : ℕ) (said : Answer) → Grows w (does w here said).after
does_grows w here (Refuses refusal) = grows_itself w
does_grows w here (Replies reply None) = grows_itself w
does_grows w here (Replies reply (Some new)) = site_grows w here (with_operation (w.site here) new) (Has-left (w.site here).set (new ∷ []))

receives_grows : (w : World) (here : ℕ) (p : Packet) (lacks : Option ℕ) → Grows w (receives w here (takes_unless lacks (w.site here) p)).after
receives_grows w here p (Some from) = grows_itself w
receives_grows w here p None = site_grows w here (taken (w.site here) p) (Has-left (w.site here).set p.gives)

takes_grows : (w : World) (here : ℕ) (o : Option Packet) → Grows w (takes w here o).after
takes_grows w here None = grows_itself w
takes_grows w here (Some p) = receives_grows w here p (missing p.need (version_of (w.site here).set))

step_grows : (n : ℕ) (w : World) (event : Event) → Grows w (step n w event).after
step_grows n w (Do site who command) =
    either (Grows w) (nat_lt site n) _ (stays w Outcome.NoSite) (does_grows w site (answer (w.site site).set site who command)) (grows_itself w)
step_grows n w (Ship site to) = either (Grows w) (nat_lt site n && nat_lt to n) (ships w site to) (stays w Outcome.NoSite) (grows_itself w) (grows_itself w)
step_grows n w (Take site k) =
    either (Grows w) (nat_lt site n) (takes w site (packet w k)) (stays w Outcome.NoSite) (takes_grows w site (packet w k)) (grows_itself w)

pub run_from_grows : (n : ℕ) (w : World) (events : List Event) → Grows w (run_from n w events)
run_from_grows n w [] i e h = h
run_from_grows n w (event ∷ events) i e h = run_from_grows n (step n w event).after events i e (step_grows n w event i e h)

pub run-append : (n : ℕ) (w : World) (early late : List Event) → run_from n w (early ++ late) ≡ run_from n (run_from n w early) late
run-append n w [] late = refl
run-append n w (event ∷ early) late = run-append n (step n w event).after early late

pub run_grows : (n : ℕ) (early late : List Event) (i : ℕ) → Includes ((run n (early ++ late)).site i).set ((run n early).site i).set
run_grows n early late i = subst (λ v. Includes (v.site i).set ((run n early).site i).set) (sym (run-append n start early late)) (run_from_grows n (run n early) late i)

outcomes_from-append : (n : ℕ) (w : World) (early late : List Event) → outcomes_from n w (early ++ late) ≡ outcomes_from n w early ++ outcomes_from n (run_from n w early) late
outcomes_from-append n w [] late = refl
outcomes_from-append n w (event ∷ early) late = ap (λ l. (step n w event).outcome ∷ l) (outcomes_from-append n (step n w event).after early late)

-- one event more
pub run-push : (n : ℕ) (events : List Event) (event : Event) → run n (events ++ event ∷ []) ≡ (step n (run n events) event).after
run-push n events event = run-append n start events (event ∷ [])

pub outcomes-push : (n : ℕ) (events : List Event) (event : Event) → outcomes n (events ++ event ∷ []) ≡ outcomes n events ++ (step n (run n events) event).outcome ∷ []
outcomes-push n events event = outcomes_from-append n start events (event ∷ [])
