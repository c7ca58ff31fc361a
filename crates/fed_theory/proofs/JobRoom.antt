-- A site has no more jobs than it had, and those that it was asked for since.
use Rattle.std.specs.Prelude.{if◌then◌else◌, cond, nat_le, nat_lt, Option, Some, None, Result, Ok, Err}
use Rattle.std.proofs.Common.{◌≡◌, ℕ, ◌+◌, ◌≤◌, ◌<◌, List, [], ◌∷◌, ◌++◌, Bool, true, false, refl, sym, ap, subst, ◌∙◌, inl, inr, append_assoc, append-nil, arith}
use Rattle.std.proofs.lemmas.Bool.{cases_eq, eq-eqb, leb-true, cases_Bool}
use Rattle.std.proofs.lemmas.List.Sums.{sum_by-cons}
use Rattle.fed_stamp.specs.declared.versions.ClockFull.{ClockFull}
use Rattle.fed_stamp.specs.Stamp.{StampValue}
use Rattle.fed_stamp.specs.Version.{next_stamp}
use Rattle.fed_lattice.specs.History.{History}
use Rattle.fed_lattice.specs.VersionOf.{version_of}
use Rattle.fed_model.specs.declared.askers.Who.{Who}
use Rattle.fed_model.specs.declared.commands.Command.{Command}
use Rattle.fed_model.specs.declared.refusals.Refusal.{Refusal}
use Rattle.fed_model.specs.declared.replies.Reply.{Reply}
use Rattle.fed_model.specs.declared.values.JobValues.{JobValues}
use Rattle.fed_model.specs.Body.{Body, Body.OfJob, JobBody}
use Rattle.fed_model.specs.Lawful.{IsLawful}
use Rattle.fed_model.specs.Origin.{jobs_of}
use Rattle.fed_model.specs.View.{View, view}
use Rattle.fed_model.specs.Answer.{Answer, Answer.Refuses, Answer.Replies, effect, replies, answer_unless, answer_to, answer}
use Rattle.fed_model.specs.Desk.{first_of}
use Rattle.fed_model.specs.Refusals.{refusals}
use Rattle.fed_model.specs.Exchange.{IsQuiet}
use Rattle.fed_model.specs.declared.events.Event.{Event}
use Rattle.fed_model.specs.declared.events.Event.TheVariants.{Do, Ship, Take}
use Rattle.fed_model.specs.declared.outcomes.Outcome.TheVariants as Outcome
use Rattle.fed_model.specs.declared.capacities.TheConstants.{MAX_JOBS}
use Rattle.fed_model.specs.Run.{World, stays, does, step, run, with_operation}
use Rattle.fed_theory.specs.Submits.{is_submit_at, submits_at}
use Rattle.fed_theory.proofs.Cuts.{cut_lawful}
use Rattle.fed_theory.proofs.OriginCounts.{HasSameOwn, MakesJob, jobs_one_more, jobs_kept, lawful_countable, own_jobs}
use Rattle.fed_theory.proofs.Runs.{Good, IsGood, put_same, quiet_good, run_good, run_from_grows, run-push}
use Rattle.fed_theory.proofs.RunSteps.{put_other}

-- ---- which command adds a Submit
no_job : (b : Bool) (job : StampValue) (what : JobBody) (body : Body) → (if b then Some (OfJob job what) else None) ≡ Some body → MakesJob body → ⊥
no_job true job what body e m = let p : body ≡ OfJob job what = cc in subst MakesJob p m
no_job false job what body e m = cc

no_job_else : (b : Bool) (job : StampValue) (what : JobBody) (body : Body) → (if b then None else Some (OfJob job what)) ≡ Some body → MakesJob body → ⊥
no_job_else true job what body e m = cc
no_job_else false job what body e m = let p : body ≡ OfJob job what = cc in subst MakesJob p m

other_body : (other body : Body) → (MakesJob other → ⊥) → Some other ≡ Some body → MakesJob body → ⊥
other_body other body none e m = let p : body ≡ other = cc in none (subst MakesJob p m)

submit_command : (v : View) (site : ℕ) (who : Who) (command : Command) (body : Body) → effect v who command ≡ Some body → MakesJob body → is_submit_at site (Do site who command) ≡ true
submit_command v site who (Command.Submit values held) body e m = eq-eqb site site refl
submit_command v site who (Command.Release job kinds) body e m = absurd (no_job _ job _ body e m)
submit_command v site who (Command.Grant job asker) body e m = absurd (no_job_else _ job _ body e m)
submit_command v site who _ body e m = absurd (other_body _ body (λ x. x) e m)

answered_submit : (ops : History Body) (here : ℕ) (who : Who) (command : Command) (reply : Reply) (new : StampValue × Body) → answer ops here who command ≡ Replies reply (Some new) → MakesJob new.1 → is_submit_at here (Do here who command) ≡ true
unfolding answer_to
answered_submit ops here who command reply new e m =
    go (first_of (refusals (view ops) here who command)) (next_stamp (version_of ops) here) (effect (view ops) who command) refl e
  where
    go : (r : Option Refusal) (n : Result StampValue ClockFull) (b : Option Body) → effect (view ops) who command ≡ b → answer_unless r (replies n command b) ≡ Replies reply (Some new) → is_submit_at here (Do here who command) ≡ true
    go (Some r) n b it f = cc
    go None n None it f = cc
    go None (Err full) (Some b) it f = cc
    go None (Ok s) (Some b) it f =
        let p : ◌≡◌ {A = StampValue × Body} (s, b) new = cc in
        submit_command (view ops) here who command b it (subst (λ (x : StampValue × Body). MakesJob x.1) (sym p) m)

-- ---- one event
abbrev asked : ℕ → Event → ℕ
asked site event = cond (is_submit_at site event) 1 0

quiet_kept : (history : History Body) (n : ℕ) (w : World) (event : Event) (site : ℕ) → IsQuiet event → IsGood history w → jobs_of (view ((step n w event).after.site site).set) site ≤ jobs_of (view (w.site site).set) site
quiet_kept history n w event site quiet good =
    let later = quiet_good history n w event quiet good in
    let same : HasSameOwn ((step n w event).after.site site).set (w.site site).set site = record {
      there = λ e h at. good.own site e ((later.cuts site).within e h) at;
      back = λ e h at. run_from_grows n w (event ∷ []) site e h;
    } in
    own_jobs ((step n w event).after.site site).set (w.site site).set site same (lawful_countable (w.site site).set (cut_lawful history (w.site site).set good.lawful (good.cuts site)))

step_jobs : (n : ℕ) (w : World) (event : Event) (site : ℕ) → Good w → jobs_of (view ((step n w event).after.site site).set) site ≤ jobs_of (view (w.site site).set) site + asked site event
step_jobs n w (Ship at to) site g = let kept = quiet_kept g.0 n w (Ship at to) site tt g.1 in omega arith
step_jobs n w (Take at k) site g = let kept = quiet_kept g.0 n w (Take at k) site tt g.1 in omega arith
step_jobs n w (Do at who command) site g = go (nat_lt at n) (answer (w.site at).set at who command) refl
  where
    go : (b : Bool) (said : Answer) → answer (w.site at).set at who command ≡ said → jobs_of (view ((if b then does w at said else stays w Outcome.NoSite).after.site site).set) site ≤ jobs_of (view (w.site site).set) site + asked site (Do at who command)
    go false said is = omega arith
    go true (Refuses refusal) is = omega arith
    go true (Replies reply None) is = omega arith
    go true (Replies reply (Some new)) is = elim (cases_eq site at) [
      | inr apart ↦ (
          let same : (does w at (Replies reply (Some new))).after.site site ≡ w.site site = put_other w.site at (with_operation (w.site at) new) site apart in
          subst (λ s. jobs_of (view s.set) site ≤ jobs_of (view (w.site site).set) site + asked site (Do at who command)) (sym same) (omega arith))
      | inl here ↦ (
          let l : IsLawful (w.site at).set = cut_lawful g.0 (w.site at).set g.1.lawful (g.1.cuts at) in
          let more : jobs_of (view ((w.site at).set ++ new ∷ [])) at ≤ jobs_of (view (w.site at).set) at + asked at (Do at who command) = added new l is in
          let after : jobs_of (view ((does w at (Replies reply (Some new))).after.site at).set) at ≤ jobs_of (view (w.site at).set) at + asked at (Do at who command) =
          subst (λ s. jobs_of (view s.set) at ≤ jobs_of (view (w.site at).set) at + asked at (Do at who command)) (sym (put_same w.site at (with_operation (w.site at) new))) more in
          subst (λ (i : ℕ). jobs_of (view ((does w at (Replies reply (Some new))).after.site i).set) i ≤ jobs_of (view (w.site i).set) i + asked i (Do at who command)) (sym here) after)
    ]
      where
        added : (new : StampValue × Body) → IsLawful (w.site at).set → answer (w.site at).set at who command ≡ Replies reply (Some new) → jobs_of (view ((w.site at).set ++ new ∷ [])) at ≤ jobs_of (view (w.site at).set) at + asked at (Do at who command)
        added new l is = elim (cases_Bool (is_submit_at at (Do at who command))) [
          | inl y ↦ (
              let most = jobs_one_more (w.site at).set new l at in
              let one : ◌≡◌ {A = ℕ} (cond (is_submit_at at (Do at who command)) 1 0) 1 = ap (λ b. cond {A = ℕ} b 1 0) y in omega arith)
          | inr z ↦ (
              let most = jobs_kept (w.site at).set new l (λ m. let y = answered_submit (w.site at).set at who command reply new is m in cc) at in omega arith)
        ]

-- ---- a run
pub jobs_since : (n : ℕ) (early late : List Event) (site : ℕ) → n ≤ 16 → jobs_of (view ((run n (early ++ late)).site site).set) site ≤ jobs_of (view ((run n early).site site).set) site + submits_at site late
jobs_since n early [] site few = subst (λ (l : List Event). jobs_of (view ((run n l).site site).set) site ≤ jobs_of (view ((run n early).site site).set) site + 0) (sym (append-nil early)) (omega arith)
jobs_since n early (event ∷ late) site few =
    let whole : (early ++ event ∷ []) ++ late ≡ early ++ event ∷ late = simp append_assoc in
    let rest = jobs_since n (early ++ event ∷ []) late site few in
    let one = step_jobs n (run n early) event site (run_good n early few) in
    let first : jobs_of (view ((run n (early ++ event ∷ [])).site site).set) site ≤ jobs_of (view ((run n early).site site).set) site + cond (is_submit_at site event) 1 0 =
    subst (λ (w : World). jobs_of (view (w.site site).set) site ≤ jobs_of (view ((run n early).site site).set) site + cond (is_submit_at site event) 1 0) (sym (run-push n early event)) one in
    let sum : submits_at site (event ∷ late) ≡ cond (is_submit_at site event) 1 0 + submits_at site late = sum_by-cons (λ x. cond (is_submit_at site x) 1 0) event late in
    let last : jobs_of (view ((run n (early ++ event ∷ late)).site site).set) site ≤ jobs_of (view ((run n (early ++ event ∷ [])).site site).set) site + submits_at site late =
    subst (λ (l : List Event). jobs_of (view ((run n l).site site).set) site ≤ jobs_of (view ((run n (early ++ event ∷ [])).site site).set) site + submits_at site late) whole rest in
    omega arith

-- a Submit at a site that has fewer than 10,000 jobs
pub submit_fits : (ops : History Body) (here : ℕ) (who : Who) (values : JobValues) (held : Bool) → jobs_of (view ops) here < MAX_JOBS → answer ops here who (Command.Submit values held) ≡ Refuses Refusal.SiteFull → ⊥
unfolding answer_to
submit_fits ops here who values held room e = go (nat_le MAX_JOBS (jobs_of (view ops) here)) refl (next_stamp (version_of ops) here) e
  where
    go : (b : Bool) → nat_le MAX_JOBS (jobs_of (view ops) here) ≡ b → (n : Result StampValue ClockFull) → answer_unless (if b then Some Refusal.SiteFull else None) (replies n (Command.Submit values held) (effect (view ops) who (Command.Submit values held))) ≡ Refuses Refusal.SiteFull → ⊥
    go true at n f = let full = leb-true MAX_JOBS (jobs_of (view ops) here) at in omega arith
    go false at (Ok t) f = cc
    go false at (Err full) f = let p : Refusal.ClockFull ≡ Refusal.SiteFull = cc in cc

pub step_fits : (n : ℕ) (w : World) (site : ℕ) (who : Who) (values : JobValues) (held : Bool) → jobs_of (view (w.site site).set) site < MAX_JOBS → (step n w (Do site who (Command.Submit values held))).outcome ≡ Outcome.Refused Refusal.SiteFull → ⊥
step_fits n w site who values held room e = go (nat_lt site n) (answer (w.site site).set site who (Command.Submit values held)) refl e
  where
    go : (b : Bool) (said : Answer) → answer (w.site site).set site who (Command.Submit values held) ≡ said → (if b then does w site said else stays w Outcome.NoSite).outcome ≡ Outcome.Refused Refusal.SiteFull → ⊥
    go false said is f = cc
    go true (Replies reply None) is f = cc
    go true (Replies reply (Some new)) is f = cc
    go true (Refuses refusal) is f =
        let p : refusal ≡ Refusal.SiteFull = cc in submit_fits (w.site site).set site who values held room (is ∙ ap Refuses p)

pub room_left : (n : ℕ) (early late : List Event) (site : ℕ) (who : Who) (values : JobValues) (held : Bool) → n ≤ 16 → jobs_of (view ((run n early).site site).set) site + submits_at site late < MAX_JOBS
    → (step n (run n (early ++ late)) (Do site who (Command.Submit values held))).outcome ≡ Outcome.Refused Refusal.SiteFull → ⊥
room_left n early late site who values held few room e =
    let most = jobs_since n early late site few in step_fits n (run n (early ++ late)) site who values held (omega arith) e
