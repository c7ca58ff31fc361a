-- What holds of each operation that an answer adds to a lawful set.
use Rattle.std.specs.Prelude.{if◌then◌else◌, is_some, is_none, nat_le, nat_lt, ◌==◌, Result, Ok, Err}
use Rattle.std.specs.List.{list_any}
use Rattle.std.proofs.Common.{◌≡◌, ◌⊎◌, ℕ, zero, suc, ◌+◌, ◌≤◌, ◌<◌, List, [], ◌∷◌, ◌++◌, Bool, true, false, not, ◌&&◌, Option, Some, None, refl, sym, ap, subst, ◌∙◌, inl, inr, arith, add-one}
use Rattle.std.proofs.lemmas.Bool.{and_parts, and_from, or_left, or_cases, or_parts, cases_Bool, both_ways, not-false, not-true, not_from_false, leb-false, leb-true, le-leb, ltb-false, eqb-true}
use Rattle.fed_stamp.specs.declared.versions.ClockFull.{ClockFull}
use Rattle.fed_stamp.specs.Stamp.{StampValue, same_stamp}
use Rattle.fed_stamp.specs.Version.{counter_of, greatest, next_stamp}
use Rattle.fed_stamp.proofs.VersionLaws.{covered_counter_le_greatest}
use Rattle.fed_lattice.specs.Sets.{Has}
use Rattle.fed_lattice.specs.History.{History}
use Rattle.fed_lattice.specs.Latest.{is_before}
use Rattle.fed_lattice.specs.SetLaws.{found, Has-left}
use Rattle.fed_lattice.proofs.FilterLaws.{Has-filter, filter-Has}
use Rattle.fed_lattice.specs.VersionOf.{version_of}
use Rattle.fed_model.specs.declared.askers.Who.{Who}
use Rattle.fed_model.specs.declared.commands.Command.{Command}
use Rattle.fed_model.specs.declared.grants.GrantStage.{GrantStage}
use Rattle.fed_model.specs.declared.grants.GrantStage.TheVariants.{Open, Returned}
use Rattle.fed_model.specs.declared.holds.HoldKinds.{HoldKinds}
use Rattle.fed_model.specs.declared.beginnings.Beginning.{Beginning}
use Rattle.fed_model.specs.declared.beginnings.Ending.{Ending}
use Rattle.fed_model.specs.declared.refusals.Refusal.{Refusal}
use Rattle.fed_model.specs.declared.replies.Reply.{Reply}
use Rattle.fed_model.specs.declared.windows.Window.{Window}
use Rattle.fed_model.specs.declared.capacities.TheConstants.{MAX_JOBS, MAX_RANGES, MAX_RESERVATIONS}
use Rattle.fed_model.specs.declared.terms.TheConstants.{MAX_TERM}
use Rattle.fed_model.specs.Body.{Body, Body.Submit, Body.OfJob, Body.Reserve, JobBody.Grant, JobBody.HandBack, JobBody.Begin, JobBody.Finish, JobBody.Delete, is_of_job, is_of_reservation, of_job, of_reservation, Body.Cancel, Body.Retire}
use Rattle.fed_model.specs.Field.{begin_in, deletion_in, finish_in, window_in, field}
use Rattle.fed_lattice.specs.Flag.{has_changes}
use Rattle.fed_lattice.specs.Part.{part}
use Rattle.fed_lattice.specs.PartLaws.{source}
use Rattle.fed_model.specs.JobView.{JobView, job_view}
use Rattle.fed_model.specs.Letter.{is_submitted, is_gone, is_granted_to}
use Rattle.fed_model.specs.Retired.{is_within, is_retired}
use Rattle.fed_model.specs.Pairs.{adds_site, removes_site, adds_hold, removes_hold, adds_pair, is_live}
use Rattle.fed_model.specs.Reservation.{ReservationView}
use Rattle.fed_theory.proofs.FoundLaws.{some_found, none_found, field_found, field_none}
use Rattle.fed_lattice.specs.ExactLaws.{same_stamp_is, same_stamp_itself}
use Rattle.fed_model.specs.View.{View, view, HasSubmit, HasReserve}
use Rattle.fed_model.specs.Lawful.{IsSubmitted, IsReserved, HasAdded, IsNextTerm, IsGrounded, IsHolder, IsLawful}
use Rattle.fed_theory.specs.MayFollow.{MayFollow}
use Rattle.fed_theory.proofs.GrowthLaws.{lawful_push}
use Rattle.fed_theory.proofs.LawfulLaws.{grounded_more}
use Rattle.fed_theory.proofs.SubmitLaws.{submit_of, unretired, read_whole, submitted_whole, reservation_whole, standing_whole, made_from}
use Rattle.fed_theory.proofs.PresenceLaws.{any_below_from}
use Rattle.fed_model.specs.Answer.{Answer.Replies, effect, replies, answer_unless, answer_to, answer, replaced_sites, released_holds, term_in}
use Rattle.fed_model.specs.Desk.{Case, is_taken, first_of}
use Rattle.fed_model.specs.Origin.{jobs_of, ranges_with, reservations_of}
use Rattle.fed_model.specs.Refusals.{is_bad_window, is_settled, is_unsettled, has_unsettled, refusals, is_standing, is_last_term}
use Rattle.fed_theory.proofs.GrantReads.{grants_below, no_grants, open_kept, open_granted, returned_made, granted_open, open_holder}
use Rattle.fed_theory.proofs.NextStamps.{IsNext, next_is, before_next, fresh_next}

-- a Grant is made by the job's origin, and a Finish by the site that began the job
abbrev pub IsPlaced : History Body → StampValue → Body → Type 0
IsPlaced ops t (OfJob job (Grant site term)) = t.site ≡ job.site
IsPlaced ops t (OfJob job (Finish ending)) = (s : StampValue) × (a : Beginning) × Has ops (s, OfJob job (Begin a)) × (s.site ≡ t.site)
IsPlaced ops t _ = Unit {0}

-- what the limits ask: the site is not full, nor has it too many ranges, terms are at most 1,000,000,000, and windows are as they may be
abbrev pub IsWithin : History Body → StampValue → Body → Type 0
IsWithin ops t (Submit owner values held) = jobs_of (view ops) t.site < MAX_JOBS
IsWithin ops t (OfJob job (Grant site term)) = term ≤ MAX_TERM
IsWithin ops t (Reserve window) = (is_bad_window window ≡ false) × (reservations_of (view ops) t.site < MAX_RESERVATIONS)
IsWithin ops t (Retire first last) = (ranges_with (view ops) t.site first last ≤ MAX_RANGES) × (last ≤ counter_of (version_of ops) t.site)
IsWithin ops t _ = Unit {0}

-- no job begins or is granted that is retired
abbrev pub IsLive : History Body → Body → Type 0
IsLive ops (OfJob job (Grant site term)) = is_retired ops job ≡ false
IsLive ops (OfJob job (Begin beginning)) = is_retired ops job ≡ false
IsLive ops _ = Unit {0}

-- the job is finished; or it has not begun, no other site than this holds its grant, and it is deleted
abbrev pub IsOver : History Body → ℕ → StampValue → Type 0
IsOver ops here job =
    ((s : StampValue) × (a : Ending) × Has ops (s, OfJob job (Finish a)))
    ⊎ (((s : StampValue) (a : Beginning) → Has ops (s, OfJob job (Begin a)) → ⊥) × ((site : ℕ) → IsHolder ops job site → site ≡ here)
    × ((s : StampValue) × Has ops (s, OfJob job Delete)))

-- each job that is retired is over, or was retired before, and each reservation is cancelled, or was retired before
abbrev pub IsClosing : History Body → StampValue → Body → Type 0
IsClosing ops t (Retire first last) =
    ((job : StampValue) → job.site ≡ t.site → is_within first last job.counter ≡ true → HasSubmit ops job → (is_retired ops job ≡ true) ⊎ IsOver ops t.site job)
    × ((id : StampValue) → id.site ≡ t.site → is_within first last id.counter ≡ true → HasReserve ops id → (is_retired ops id ≡ true) ⊎ ((s : StampValue) × Has ops (s, Cancel id)))
IsClosing ops t _ = Unit {0}

pub record IsAllowed (ops : History Body) (t : StampValue) (body : Body) : Type 0 where
  pub grounded : IsGrounded ops t body
  pub may : MayFollow ops t body
  pub placed : IsPlaced ops t body
  pub limited : IsWithin ops t body
  pub live : IsLive ops body
  pub closing : IsClosing ops t body

-- two sites that hold a job's grant are one
pub same_holder : (ops : History Body) → IsLawful ops → (job : StampValue) (a b : ℕ) → IsHolder ops job a → IsHolder ops job b → a ≡ b
same_holder ops l job a b h k =
    let low : h.term ≤ k.term = k.greatest h.stamp a h.term h.granted in
    let high : k.term ≤ h.term = h.greatest k.stamp b k.term k.granted in
    let same : k.term ≡ h.term = omega arith in
    let g : Has ops (k.stamp, OfJob job (Grant b h.term)) = subst (λ (n : ℕ). Has ops (k.stamp, OfJob job (Grant b n))) same k.granted in
    let e = l.distinct (h.stamp, OfJob job (Grant a h.term)) (k.stamp, OfJob job (Grant b h.term)) h.granted g (l.one_grant job h.stamp k.stamp a b h.term h.granted g) in
    let p : ◌≡◌ {A = Body} (OfJob job (Grant a h.term)) (OfJob job (Grant b h.term)) = ap (λ (x : StampValue × Body). x.1) e in cc

-- ---- tables of refusals
-- none applies
abbrev pub AreClear : List Case → Type 0
AreClear [] = Unit {0}
AreClear (c ∷ cases) = (c.0 ≡ false) × AreClear cases

clear_rest : (b : Bool) (r : Refusal) (rest : Option Refusal) → (if b then Some r else rest) ≡ None → (b ≡ false) × (rest ≡ None)
clear_rest true r rest e = cc
clear_rest false r rest e = (refl, e)

pub clear : (cases : List Case) → first_of cases ≡ None → AreClear cases
clear [] e = tt
clear (c ∷ cases) e = let p = clear_rest c.0 c.1 (first_of cases) e in (p.0, clear cases p.1)

-- ---- what is read of one job
module _ (ops : History Body) (l : IsLawful ops) (here : ℕ) (t : StampValue) (next : IsNext (version_of ops) here t) where
  before : (s : StampValue) (body : Body) → Has ops (s, body) → is_before s t ≡ true
  before s body h = before_next ops l.sites here t next (s, body) h

  submitted : (job : StampValue) → not (is_submitted ((view ops).job job)) ≡ false → IsSubmitted ops t job
  submitted job e =
      let s = submit_of ops job (not-false _ e) in
      (s.0, s.1, s.2, (s.3, before job (Submit s.0 s.1 s.2) s.3))

  live_added : {E : Type 0} (adds : Body → E → Bool) (removes : Body → E → StampValue → Bool) (job : StampValue) (element : E) (tag : StampValue) → is_live adds removes (of_job job ops) element tag ≡ true
      → (body : Body) × (Has ops (tag, body)) × (is_of_job job (tag, body) ≡ true) × (adds body element ≡ true)
  live_added adds removes job element tag e =
      let f = found (adds_pair adds removes element tag) (of_job job ops) (and_parts (list_any (adds_pair adds removes element tag) (of_job job ops)) _ e).0 in
      let p = and_parts (same_stamp f.0.0 tag) (adds f.0.1 element) f.2 in
      let h : Has (of_job job ops) (tag, f.0.1) = subst (λ (s : StampValue). Has (of_job job ops) (s, f.0.1)) (same_stamp_is f.0.0 tag p.0) f.1 in
      let m = Has-filter (is_of_job job) ops (tag, f.0.1) h in
      (f.0.1, m.0, m.1, p.1)

  sites_added : (job : StampValue) (named : Option (List Bool)) → HasAdded adds_site ops t job (replaced_sites (job_view (of_job job ops)) named)
  sites_added job None site tag e = cc
  sites_added job (Some sites) site tag e =
      let a = live_added adds_site removes_site job site tag e in (a.0, (a.1, before tag a.0 a.1), a.2, a.3)

  holds_added : (job : StampValue) (kinds : HoldKinds) → HasAdded adds_hold ops t job (released_holds (job_view (of_job job ops)) kinds)
  holds_added job kinds kind tag e =
      let a = live_added adds_hold removes_hold job kind tag (and_parts _ ((job_view (of_job job ops)).holds kind tag) e).1 in (a.0, (a.1, before tag a.0 a.1), a.2, a.3)

  -- ---- progress
  begin_body : (job : StampValue) (body : Body) (a : Beginning) (s : StampValue) → begin_in body ≡ Some a → is_of_job job (s, body) ≡ true → body ≡ OfJob job (Begin a)
  begin_body job (OfJob named (Begin b)) a s e of =
      let p : named ≡ job = same_stamp_is named job of in let q : b ≡ a = cc in (λ i. OfJob (p i) (Begin (q i)))
  begin_body job _ a s e of = cc

  begun : (job : StampValue) → is_none (job_view (of_job job ops)).stages.begun ≡ false → (s : StampValue) × (a : Beginning) × Has ops (s, OfJob job (Begin a))
  begun job e =
      let o = some_found (field begin_in (of_job job ops)) (not-false _ e) in
      let f = field_found begin_in (of_job job ops) o.0 o.1 in
      let m = Has-filter (is_of_job job) ops (o.0.0, f.0) f.1 in
      (o.0.0, o.0.1, subst (λ (body : Body). Has ops (o.0.0, body)) (begin_body job f.0 o.0.1 o.0.0 f.2 m.1) m.0)

  not_begun : (job : StampValue) → is_some (job_view (of_job job ops)).stages.begun ≡ false → (s : StampValue) (a : Beginning) → Has ops (s, OfJob job (Begin a)) → ⊥
  not_begun job e s a h =
      let n = field_none begin_in (of_job job ops) (none_found _ e) s (OfJob job (Begin a)) (filter-Has (is_of_job job) ops (s, OfJob job (Begin a)) h (same_stamp_itself job)) in cc

  -- a job that is finished has its Finish
  finish_body : (job : StampValue) (body : Body) (a : Ending) (s : StampValue) → finish_in body ≡ Some a → is_of_job job (s, body) ≡ true → body ≡ OfJob job (Finish a)
  finish_body job (OfJob named (Finish b)) a s e of =
      let p : named ≡ job = same_stamp_is named job of in let q : b ≡ a = cc in (λ i. OfJob (p i) (Finish (q i)))
  finish_body job _ a s e of = cc

  finished : (job : StampValue) → is_some (job_view (of_job job ops)).stages.finished ≡ true → (s : StampValue) × (a : Ending) × Has ops (s, OfJob job (Finish a))
  finished job e =
      let o = some_found (field finish_in (of_job job ops)) e in
      let f = field_found finish_in (of_job job ops) o.0 o.1 in
      let m = Has-filter (is_of_job job) ops (o.0.0, f.0) f.1 in
      (o.0.0, o.0.1, subst (λ (body : Body). Has ops (o.0.0, body)) (finish_body job f.0 o.0.1 o.0.0 f.2 m.1) m.0)

  -- a job that is deleted has a Delete
  delete_body : (job : StampValue) (body : Body) (u : Unit {0}) (s : StampValue) → deletion_in body ≡ Some u → is_of_job job (s, body) ≡ true → body ≡ OfJob job Delete
  delete_body job (OfJob named Delete) u s e of = let p : named ≡ job = same_stamp_is named job of in (λ i. OfJob (p i) Delete)
  delete_body job _ u s e of = cc

  deletion : (job : StampValue) → (job_view (of_job job ops)).stages.deleted ≡ true → (s : StampValue) × Has ops (s, OfJob job Delete)
  deletion job e = go (part deletion_in (of_job job ops)) refl e
    where
      go : (h : History (Unit {0})) → part deletion_in (of_job job ops) ≡ h → has_changes h ≡ true → (s : StampValue) × Has ops (s, OfJob job Delete)
      go [] is e = cc
      go (c ∷ h) is e =
          let there : Has (part deletion_in (of_job job ops)) c = subst (λ (l : History (Unit {0})). Has l c) (sym is) (inl refl) in
          let f = source deletion_in (of_job job ops) c there in
          let m = Has-filter (is_of_job job) ops (c.0, f.0) f.1 in
          (c.0, subst (λ (body : Body). Has ops (c.0, body)) (delete_body job f.0 c.1 c.0 f.2 m.1) m.0)

  gone_from_finished : (job : StampValue) → is_some (job_view (of_job job ops)).stages.finished ≡ true → is_gone (job_view (of_job job ops)) ≡ true
  gone_from_finished job e =
      let j : JobView = job_view (of_job job ops) in or_left (is_some j.stages.finished) (j.stages.deleted && is_none j.stages.begun) e

  not_finished : (job : StampValue) → is_gone (job_view (of_job job ops)) ≡ false → (s : StampValue) (a : Ending) → Has ops (s, OfJob job (Finish a)) → ⊥
  not_finished job e s a h = elim (cases_Bool (is_some (job_view (of_job job ops)).stages.finished)) [
    | inl there ↦ both_ways _ e (gone_from_finished job there)
    | inr none ↦ (let n = field_none finish_in (of_job job ops) (none_found _ none) s (OfJob job (Finish a)) (filter-Has (is_of_job job) ops (s, OfJob job (Finish a)) h (same_stamp_itself job)) in cc)
  ]

  -- ---- reservations
  window_body : (id : StampValue) (body : Body) (w : Window) (s : StampValue) → window_in body ≡ Some (Some w) → is_of_reservation id (s, body) ≡ true → ◌≡◌ {A = StampValue × Body} (s, body) (id, Reserve w)
  window_body id (Reserve window) w s e of =
      let p : s ≡ id = same_stamp_is s id of in let q : window ≡ w = cc in (λ i. (p i, Reserve (q i)))
  window_body id _ w s e of = cc

  standing : (id : StampValue) (o : ReservationView) → (view ops).reservation id ≡ o → is_standing o ≡ true → IsReserved ops t id
  standing id None is e = cc
  standing id (Some (s, None)) is e = cc
  standing id (Some (s, Some w)) is e =
      let whole_is = sym (reservation_whole ops id (standing_whole ops id (ap is_some is)).0) ∙ is in
      let f = field_found window_in (of_reservation id ops) (s, Some w) whole_is in
      let m = Has-filter (is_of_reservation id) ops (s, f.0) f.1 in
      let h : Has ops (id, Reserve w) = subst (Has ops) (window_body id f.0 w s f.2 m.1) m.0 in
      (w, (h, before id (Reserve w) h))

  -- a reservation that is made and doesn't stand is cancelled
  cancel_body : (id : StampValue) (body : Body) (s : StampValue) → window_in body ≡ Some None → is_of_reservation id (s, body) ≡ true → body ≡ Cancel id
  cancel_body id (Cancel other) s e of = ap Cancel (same_stamp_is other id of)
  cancel_body id (Reserve window) s e of = absurd (let r : ◌≡◌ {A = Option (Option Window)} (Some (Some window)) (Some None) = e in cc)
  cancel_body id _ s e of = cc

  cancelled : (id : StampValue) (o : ReservationView) → (view ops).reservation id ≡ o → is_standing o ≡ false → HasReserve ops id → is_retired ops id ≡ false → (s : StampValue) × Has ops (s, Cancel id)
  cancelled id None is e made r = absurd (let m : is_some ((view ops).reservation id) ≡ true = made_from ops id made r in let n : is_some ((view ops).reservation id) ≡ false = ap is_some is in both_ways _ n m)
  cancelled id (Some (s, Some w)) is e made r = cc
  cancelled id (Some (s, None)) is e made r =
      let f = field_found window_in (of_reservation id ops) (s, None) (sym (reservation_whole ops id r) ∙ is) in
      let m = Has-filter (is_of_reservation id) ops (s, f.0) f.1 in
      (s, subst (λ (body : Body). Has ops (s, body)) (cancel_body id f.0 s f.2 m.1) m.0)

  -- ---- grants
  next_term : (job : StampValue) (term : ℕ) (s : StampValue) → Has ops (s, OfJob job (HandBack term)) → IsNextTerm ops t job (suc term)
  next_term job zero s h = tt
  next_term job (suc term) s h = (s, (h, before s (OfJob job (HandBack (suc term))) h))

  grant_follows : (job : StampValue) (asker : ℕ) (g : Option GrantStage) → (job_view (of_job job ops)).stages.grant ≡ g → is_taken asker (job_view (of_job job ops)) ≡ false → is_granted_to (job_view (of_job job ops)) asker ≡ false → is_last_term g ≡ false
      → (IsNextTerm ops t job (term_in g + 1)) × (MayFollow ops t (OfJob job (Grant asker (term_in g + 1)))) × (term_in g + 1 ≤ MAX_TERM)
  grant_follows job asker None is free not_mine last = (tt, λ s other h. no_grants ops job is s other 1 h, omega arith)
  grant_follows job asker (Some (Open term s holder)) is free not_mine last =
      let a = rw is at free in let b = rw is at not_mine in let c = rw b at a in cc
  grant_follows job asker (Some (Returned term s)) is free not_mine last =
      let below = leb-false MAX_TERM term last in (
        subst (IsNextTerm ops t job) (sym (add-one term)) (next_term job term s (returned_made ops job term s is)),
        λ u other h. let le : term + 1 ≤ term = grants_below ops job (Returned term s) is u other (term + 1) h in omega arith,
        omega arith,
      )

  -- ---- what a command that is not refused adds
  is_body : (body new : Body) → Some body ≡ Some new → IsAllowed ops t body → IsAllowed ops t new
  is_body body new e h = let p : body ≡ new = cc in subst (λ b. IsAllowed ops t b) p h

  body_if : (b : Bool) (body new : Body) → (if b then Some body else None) ≡ Some new → (b ≡ true → IsAllowed ops t body) → IsAllowed ops t new
  body_if true body new e h = is_body body new e (h refl)
  body_if false body new e h = cc

  body_unless : (b : Bool) (body new : Body) → (if b then None else Some body) ≡ Some new → (b ≡ false → IsAllowed ops t body) → IsAllowed ops t new
  body_unless true body new e h = cc
  body_unless false body new e h = is_body body new e (h refl)

  at_here : (job : StampValue) (site term : ℕ) → ((s : StampValue) × Has ops (s, OfJob job (Grant here term))) → (s : StampValue) × Has ops (s, OfJob job (Grant t.site term))
  at_here job site term g = (g.0, subst (λ (n : ℕ). Has ops (g.0, OfJob job (Grant n term))) (sym next.site) g.1)

  handed_back : (job : StampValue) → is_granted_to (job_view (of_job job ops)) here ≡ true → IsSubmitted ops t job → is_some (job_view (of_job job ops)).stages.begun ≡ false → IsAllowed ops t (OfJob job (HandBack (term_in (job_view (of_job job ops)).stages.grant)))
  handed_back job e sub idle =
      let o = granted_open ops job here e in
      let term : ℕ = o.0 in
      let g = at_here job here term (o.1, open_granted ops job term o.1 here o.2) in
      let same : term ≡ term_in (job_view (of_job job ops)).stages.grant = sym (ap term_in o.2) in
      subst (λ (n : ℕ). IsAllowed ops t (OfJob job (HandBack n))) same (record {
        grounded = (sub, (g.0, (g.1, before g.0 (OfJob job (Grant t.site term)) g.1)));
        may = (λ s h. open_kept ops job term o.1 here o.2 s h, not_begun job idle);
        placed = tt;
        limited = tt;
        live = tt;
        closing = tt;
      })

  holds : (job : StampValue) → is_granted_to (job_view (of_job job ops)) here ≡ true → IsHolder ops job t.site
  holds job e = let o = granted_open ops job here e in subst (IsHolder ops job) (sym next.site) (open_holder ops job here o.0 o.1 o.2)

  -- what is read of a job that is submitted is read of its operations
  whole : (job : StampValue) → not (is_submitted ((view ops).job job)) ≡ false → (view ops).job job ≡ job_view (of_job job ops)
  whole job e = read_whole ops job (unretired ops job (not-false _ e))

  live_job : (job : StampValue) → not (is_submitted ((view ops).job job)) ≡ false → is_retired ops job ≡ false
  live_job job e = unretired ops job (not-false _ e)

  -- the view where every job is this one
  abbrev with_job : JobView → View
  with_job j = record (view ops) { job = λ id. j }

  -- ---- what its origin retires is over
  holder_stage : (job : StampValue) (site : ℕ) → IsHolder ops job site → (o : Option GrantStage) → (job_view (of_job job ops)).stages.grant ≡ o → is_taken here (job_view (of_job job ops)) ≡ false → site ≡ here
  holder_stage job site h None is free = absurd (no_grants ops job is h.stamp site h.term h.granted)
  holder_stage job site h (Some (Returned term s)) is free =
      let r = returned_made ops job term s is in
      let below : h.term ≤ term = grants_below ops job (Returned term s) is h.stamp site h.term h.granted in
      let g = (l.grounded (s, OfJob job (HandBack term)) r).1 in
      let above : term ≤ h.term = h.greatest g.0 s.site term g.1.0 in
      let same : term ≡ h.term = omega arith in
      absurd (h.kept s (subst (λ (n : ℕ). Has ops (s, OfJob job (HandBack n))) same r))
  holder_stage job site h (Some (Open term s x)) is free =
      let mine : (x == here) ≡ true = not-false (x == here) (rw is at free) in
      let k = open_holder ops job x term s is in
      same_holder ops l job site x h k ∙ eqb-true x here mine

  over : (job : StampValue) → is_settled here (job_view (of_job job ops)) ≡ true → IsOver ops here job
  over job e =
      let j : JobView = job_view (of_job job ops) in
      elim (or_cases (is_some j.stages.finished) ((j.stages.deleted && is_none j.stages.begun) && not (is_taken here j)) e) [
        | inl f ↦ inl (finished job f)
        | inr d ↦ (
            let parts = and_parts (j.stages.deleted && is_none j.stages.begun) (not (is_taken here j)) d in
            let both = and_parts j.stages.deleted (is_none j.stages.begun) parts.0 in
            inr (not_begun job (not-true (is_some j.stages.begun) both.1), λ site h. holder_stage job site h j.stages.grant refl (not-true _ parts.1), deletion job both.0))
      ]

  -- what is in the range is settled
  none_unsettled : (first last : ℕ) → has_unsettled (view ops) here first last ≡ false → last ≤ counter_of (version_of ops) here
      → (id : StampValue) → id.site ≡ here → is_within first last id.counter ≡ true → is_unsettled (view ops) here id ≡ false
  none_unsettled first last none far id at within = elim (cases_Bool (is_unsettled (view ops) here id)) [
    | inr n ↦ n
    | inl y ↦ absurd (
        let test : ℕ → Bool = λ counter. is_within first last counter && is_unsettled (view ops) here (record { counter = counter; site = here }) in
        let is : id ≡ record { counter = id.counter; site = here } = (λ i. record { counter = id.counter; site = at i }) in
        let high = leb-true id.counter last (and_parts (nat_le first id.counter) (nat_le id.counter last) within).1 in
        both_ways _ none (any_below_from (suc (counter_of (version_of ops) here)) test id.counter (omega arith)
        (and_from (is_within first last id.counter) _ within (subst (λ (x : StampValue). is_unsettled (view ops) here x ≡ true) is y))))
  ]

  settled : (job : StampValue) → is_unsettled (view ops) here job ≡ false → HasSubmit ops job → is_retired ops job ≡ false → is_settled here (job_view (of_job job ops)) ≡ true
  settled job none sub r = elim (cases_Bool (is_settled here (job_view (of_job job ops)))) [
    | inl y ↦ y
    | inr n ↦ absurd (
        let unsettled : (is_submitted ((view ops).job job) && not (is_settled here ((view ops).job job))) ≡ true =
        subst (λ j. (is_submitted j && not (is_settled here j)) ≡ true) (sym (read_whole ops job r)) (and_from _ _ (submitted_whole ops job sub) (not_from_false _ n)) in
        both_ways _ none (or_left (is_submitted ((view ops).job job) && not (is_settled here ((view ops).job job))) (is_standing ((view ops).reservation job)) unsettled))
  ]

  effect_allowed : (who : Who) (command : Command) (new : Body) → AreClear (refusals (view ops) here who command) → effect (view ops) who command ≡ Some new → IsAllowed ops t new
  effect_allowed who (Command.Submit values held) new r e = is_body _ new e (record {
    grounded = tt;
    may = tt;
    placed = tt;
    limited = subst (λ (site : ℕ). jobs_of (view ops) site < MAX_JOBS) (sym next.site) (leb-false MAX_JOBS (jobs_of (view ops) here) r.0);
    live = tt;
    closing = tt;
  })
  effect_allowed who (Command.Alter job changes) new r e =
      let f = subst (λ j. effect (with_job j) who (Command.Alter job changes) ≡ Some new) (whole job r.0) e in
      is_body _ new f (record { grounded = (submitted job r.0, sites_added job changes.sites); may = tt; placed = tt; limited = tt; live = tt; closing = tt })
  effect_allowed who (Command.Hold job kinds) new r e =
      is_body _ new e (record { grounded = (submitted job r.0, tt); may = tt; placed = tt; limited = tt; live = tt; closing = tt })
  effect_allowed who (Command.Release job kinds) new r e =
      let f = subst (λ j. effect (with_job j) who (Command.Release job kinds) ≡ Some new) (whole job r.0) e in
      body_if _ _ new f (λ _. record { grounded = (submitted job r.0, holds_added job kinds); may = tt; placed = tt; limited = tt; live = tt; closing = tt })
  effect_allowed who (Command.Delete job) new r e =
      is_body _ new e (record { grounded = (submitted job r.0, tt); may = tt; placed = tt; limited = tt; live = tt; closing = tt })
  effect_allowed who (Command.Grant job asker) new r e =
      let f = subst (λ j. effect (with_job j) who (Command.Grant job asker) ≡ Some new) (whole job r.0) e in
      let q = subst (λ j. AreClear (refusals (with_job j) here who (Command.Grant job asker))) (whole job r.0) r in
      body_unless (is_granted_to (job_view (of_job job ops)) asker) _ new f (λ k.
      let g = grant_follows job asker (job_view (of_job job ops)).stages.grant refl q.1.1.1.1.1.0 k q.1.1.1.1.1.1.0 in
      record {
        grounded = (submitted job r.0, g.0);
        may = g.1;
        placed = next.site ∙ sym (eqb-true job.site here (not-false _ r.1.1.0));
        limited = g.2;
        live = live_job job r.0;
        closing = tt;
      })
  effect_allowed who (Command.HandBack job) new r e =
      let f = subst (λ j. effect (with_job j) who (Command.HandBack job) ≡ Some new) (whole job r.0) e in
      let q = subst (λ j. AreClear (refusals (with_job j) here who (Command.HandBack job))) (whole job r.0) r in
      is_body _ new f (handed_back job (not-false _ q.1.1.0) (submitted job r.0) q.1.1.1.0)
  effect_allowed who (Command.Decline job) new r e =
      let f = subst (λ j. effect (with_job j) who (Command.Decline job) ≡ Some new) (whole job r.0) e in
      let q = subst (λ j. AreClear (refusals (with_job j) here who (Command.Decline job))) (whole job r.0) r in
      is_body _ new f (handed_back job (not-false _ q.1.1.0) (submitted job r.0) q.1.1.1.0)
  effect_allowed who (Command.Begin job moment) new r e =
      let q = subst (λ j. AreClear (refusals (with_job j) here who (Command.Begin job moment))) (whole job r.0) r in
      is_body _ new e (record {
        grounded = (submitted job r.0, tt);
        may = (not_begun job q.1.1.1.1.0, holds job (not-false _ q.1.1.1.0));
        placed = tt;
        limited = tt;
        live = live_job job r.0;
        closing = tt;
      })
  effect_allowed who (Command.Finish job moment status) new r e =
      let q = subst (λ j. AreClear (refusals (with_job j) here who (Command.Finish job moment status))) (whole job r.0) r in
      let b = begun job q.1.1.1.0 in
      is_body _ new e (record {
        grounded = (submitted job r.0, b);
        may = not_finished job q.1.0;
        placed = (b.0, b.1, b.2, same_holder ops l job b.0.site t.site (l.begun_held job b.0 b.1 b.2) (holds job (not-false _ q.1.1.0)));
        limited = tt;
        live = tt;
        closing = tt;
      })
  effect_allowed who (Command.Reserve window) new r e = is_body _ new e (record {
    grounded = tt;
    may = tt;
    placed = tt;
    limited = (r.1.0, subst (λ (site : ℕ). reservations_of (view ops) site < MAX_RESERVATIONS) (sym next.site) (leb-false MAX_RESERVATIONS (reservations_of (view ops) here) r.1.1.0));
    live = tt;
    closing = tt;
  })
  effect_allowed who (Command.Cancel id) new r e =
      is_body _ new e (record { grounded = standing id ((view ops).reservation id) refl (not-false _ r.1.0); may = tt; placed = tt; limited = tt; live = tt; closing = tt })
  effect_allowed who (Command.Retire first last) new r e =
      let a = or_parts _ (has_unsettled (view ops) here first last) r.1.1.0 in
      let few : nat_lt MAX_RANGES (ranges_with (view ops) here first last) ≡ false = ap (λ bad. not bad && nat_lt MAX_RANGES (ranges_with (view ops) here first last)) (sym a.0) ∙ r.0 in
      let b = or_parts (nat_le first 0) _ a.0 in
      let c = or_parts (nat_lt last first) _ b.1 in
      let one = leb-false first 0 b.0 in
      let some = ltb-false last first c.0 in
      let far : last ≤ counter_of (version_of ops) here = ltb-false (counter_of (version_of ops) here) last c.1 in
      let most : counter_of (version_of ops) here ≤ greatest (version_of ops) = covered_counter_le_greatest (version_of ops) (record { counter = counter_of (version_of ops) here; site = here }) (le-leb _ _ (omega arith)) in
      let up = next.counter in
      is_body _ new e (record {
        grounded = (omega arith, omega arith, omega arith);
        may = tt;
        placed = tt;
        limited = subst (λ (site : ℕ). (ranges_with (view ops) site first last ≤ MAX_RANGES) × (last ≤ counter_of (version_of ops) site)) (sym next.site) (ltb-false MAX_RANGES (ranges_with (view ops) here first last) few, far);
        live = tt;
        closing = (
          λ job at within sub. elim (cases_Bool (is_retired ops job)) [
            | inl y ↦ inl y
            | inr n ↦ inr (subst (λ (site : ℕ). IsOver ops site job) (sym next.site) (over job (settled job (none_unsettled first last a.1 far job (at ∙ next.site) within) sub n)))
          ],
          λ id at within made. elim (cases_Bool (is_retired ops id)) [
            | inl y ↦ inl y
            | inr n ↦ inr (
                let none = or_parts (is_submitted ((view ops).job id) && not (is_settled here ((view ops).job id))) (is_standing ((view ops).reservation id)) (none_unsettled first last a.1 far id (at ∙ next.site) within) in
                cancelled id ((view ops).reservation id) refl none.1 made n)
          ],
        );
      })

-- an answer adds at most one operation, which its site may add, under the next stamp
pub answer_allowed : (ops : History Body) → IsLawful ops → (here : ℕ) (who : Who) (command : Command) (said : Reply) (new : StampValue × Body) → answer ops here who command ≡ Replies said (Some new) → (IsNext (version_of ops) here new.0) × IsAllowed ops new.0 new.1
unfolding answer_to
answer_allowed ops l here who command said new e =
    go (first_of (refusals (view ops) here who command)) refl (next_stamp (version_of ops) here) refl (effect (view ops) who command) refl e
  where
    go : (r : Option Refusal) → first_of (refusals (view ops) here who command) ≡ r → (n : Result StampValue ClockFull) → next_stamp (version_of ops) here ≡ n → (b : Option Body) → effect (view ops) who command ≡ b
        → answer_unless r (replies n command b) ≡ Replies said (Some new) → (IsNext (version_of ops) here new.0) × IsAllowed ops new.0 new.1
    go (Some r) is n at b it f = cc
    go None is n at None it f = cc
    go None is (Err full) at (Some b) it f = cc
    go None is (Ok t) at (Some b) it f =
        let p : ◌≡◌ {A = StampValue × Body} (t, b) new = cc in
        let next = next_is (version_of ops) here t at in
        subst (λ (x : StampValue × Body). (IsNext (version_of ops) here x.0) × IsAllowed ops x.0 x.1) p
        (next, effect_allowed ops l here t next who command b (clear _ is) it)

-- so a lawful set stays lawful
pub answer_lawful : (ops : History Body) → IsLawful ops → (here : ℕ) → here < 16 → (who : Who) (command : Command) (said : Reply) (new : StampValue × Body) → answer ops here who command ≡ Replies said (Some new) → IsLawful (ops ++ new ∷ [])
answer_lawful ops l here small who command said new e =
    let a = answer_allowed ops l here who command said new e in
    let at = a.0.site in
    lawful_push ops new l (fresh_next ops l.sites here new.0 a.0)
    (grounded_more ops (ops ++ new ∷ []) (Has-left ops (new ∷ [])) new.0 new.1 a.1.grounded) a.1.may (omega arith)
