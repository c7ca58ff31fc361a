-- Once a job is retired it never begins, and it stays retired.
use Rattle.std.specs.Prelude.{if◌then◌else◌, nat_lt, ◌==◌, Option, Some, None, Result, Ok, Err}
use Rattle.std.proofs.Common.{◌⊎◌, ◌≡◌, ℕ, ◌≤◌, ◌<◌, List, ◌∷◌, ◌++◌, Bool, true, false, refl, sym, ap, subst, ◌∙◌, inl, inr}
use Rattle.std.proofs.lemmas.Bool.{and_from, both_ways, eq-eqb, eqb-true, ltb-true, not-false}
use Rattle.fed_stamp.specs.declared.versions.ClockFull.{ClockFull}
use Rattle.fed_stamp.specs.Stamp.{StampValue}
use Rattle.fed_stamp.specs.Version.{next_stamp}
use Rattle.fed_lattice.specs.Sets.{Has}
use Rattle.fed_lattice.specs.History.{History}
use Rattle.fed_lattice.specs.VersionOf.{version_of}
use Rattle.fed_model.specs.declared.beginnings.Beginning.{Beginning}
use Rattle.fed_model.specs.declared.beginnings.Ending.{Ending}
use Rattle.fed_model.specs.declared.windows.Window.{Window}
use Rattle.fed_model.specs.declared.askers.Who.{Who}
use Rattle.fed_model.specs.declared.commands.Command.{Command}
use Rattle.fed_model.specs.declared.refusals.Refusal.{Refusal}
use Rattle.fed_model.specs.declared.replies.Reply.{Reply}
use Rattle.fed_model.specs.declared.taken.Taken.{Taken}
use Rattle.fed_model.specs.Body.{Body, Body.Submit, Body.OfJob, JobBody.Begin, JobBody.Finish, JobBody.Delete, Body.Reserve, Body.Cancel, Body.Retire}
use Rattle.fed_model.specs.Retired.{is_within, retires}
use Rattle.fed_model.specs.View.{view, HasSubmit}
use Rattle.fed_model.specs.Answer.{Answer, Answer.Refuses, Answer.Replies, effect, replies, answer_unless, answer_to, answer}
use Rattle.fed_model.specs.Desk.{first_of}
use Rattle.fed_model.specs.Refusals.{refusals}
use Rattle.fed_model.specs.declared.events.Event.{Event}
use Rattle.fed_model.specs.declared.events.Event.TheVariants.{Do, Ship, Take}
use Rattle.fed_model.specs.declared.outcomes.Outcome.{Outcome}
use Rattle.fed_model.specs.Run.{World, stays, does, step, run}
use Rattle.fed_theory.specs.MayFollow.{MayFollow}
use Rattle.fed_theory.proofs.Allowed.{AreClear, clear, answer_allowed}
use Rattle.fed_theory.proofs.Begins.{begun}
use Rattle.fed_theory.proofs.Cuts.{cut_lawful}
use Rattle.fed_theory.proofs.DoneCommands.{done_kept, done_passed}
use Rattle.fed_theory.proofs.Growth.{may}
use Rattle.fed_theory.proofs.RetiredLaws.{retired_by, retired_more, retiring}
use Rattle.fed_theory.proofs.Runs.{placed_all, run_good, run_grows}
use Rattle.fed_theory.proofs.NextStamps.{next_is}
use Rattle.fed_theory.proofs.SubmitLaws.{unretired}

-- ---- what is said of a command that is done
pub record IsDone (n : ℕ) (w : World) (here : ℕ) (who : Who) (command : Command) : Type 0 where
  pub small : here < n
  pub reply : Reply
  pub new : Option (StampValue × Body)
  pub answered : answer (w.site here).set here who command ≡ Replies reply new

pub is_done : (n : ℕ) (w : World) (here : ℕ) (who : Who) (command : Command) (reply : Reply) → (step n w (Do here who command)).outcome ≡ Outcome.Replied reply → IsDone n w here who command
is_done n w here who command reply e =
    let r = go (nat_lt here n) refl (answer (w.site here).set here who command) refl e in
    record { small = r.0; reply = r.1; new = r.2; answered = r.3 }
  where
    go : (b : Bool) → nat_lt here n ≡ b → (said : Answer) → answer (w.site here).set here who command ≡ said → (if b then does w here said else stays w Outcome.NoSite).outcome ≡ Outcome.Replied reply
        → (here < n) × (r : Reply) × (new : Option (StampValue × Body)) × (answer (w.site here).set here who command ≡ Replies r new)
    go false at said is f = cc
    go true at (Refuses refusal) is f = cc
    go true at (Replies r new) is f = (ltb-true here n at, r, new, is)

-- none of its refusals applies
done_clear : (ops : History Body) (here : ℕ) (who : Who) (command : Command) (reply : Reply) (new : Option (StampValue × Body)) → answer ops here who command ≡ Replies reply new → AreClear (refusals (view ops) here who command)
unfolding answer_to
done_clear ops here who command reply new e = clear (refusals (view ops) here who command) (go (first_of (refusals (view ops) here who command)) e)
  where
    go : (r : Option Refusal) → answer_unless r (replies (next_stamp (version_of ops) here) command (effect (view ops) who command)) ≡ Replies reply new → r ≡ None
    go (Some r) f = cc
    go None f = refl

-- a Retire that is done adds a Retire
retire_adds : (ops : History Body) (here : ℕ) (who : Who) (first last : ℕ) (reply : Reply) (new : Option (StampValue × Body)) → answer ops here who (Command.Retire first last) ≡ Replies reply new
    → (t : StampValue) × (new ≡ Some (t, Retire first last)) × (t.site ≡ here)
unfolding answer_to
retire_adds ops here who first last reply new e =
    go (first_of (refusals (view ops) here who (Command.Retire first last))) (next_stamp (version_of ops) here) refl e
  where
    go : (r : Option Refusal) (n : Result StampValue ClockFull) → next_stamp (version_of ops) here ≡ n → answer_unless r (replies n (Command.Retire first last) (effect (view ops) who (Command.Retire first last))) ≡ Replies reply new
        → (t : StampValue) × (new ≡ Some (t, Retire first last)) × (t.site ≡ here)
    go (Some r) n at f = cc
    go None (Err full) at f = cc
    go None (Ok t) at f =
        let p : new ≡ Some (t, Retire first last) = cc in (t, p, (next_is (version_of ops) here t at).site)

-- the operation that the Retire added
pub record IsRetiredAt (n : ℕ) (w : World) (site : ℕ) (who : Who) (first last : ℕ) : Type 0 where
  pub small : site < n
  pub stamp : StampValue
  pub reply : Reply
  pub at : stamp.site ≡ site
  pub answered : answer (w.site site).set site who (Command.Retire first last) ≡ Replies reply (Some (stamp, Retire first last))

pub retired_at : (n : ℕ) (w : World) (site : ℕ) (who : Who) (first last : ℕ) (reply : Reply) → (step n w (Do site who (Command.Retire first last))).outcome ≡ Outcome.Replied reply → IsRetiredAt n w site who first last
retired_at n w site who first last reply e =
    let d = is_done n w site who (Command.Retire first last) reply e in
    let a = retire_adds (w.site site).set site who first last d.reply d.new d.answered in
    record { small = d.small; stamp = a.0; reply = d.reply; at = a.2; answered = d.answered ∙ ap (Replies d.reply) a.1 }

module _ (n : ℕ) (early between : List Event) (site : ℕ) (who : Who) (first last : ℕ) (job : StampValue) (reply : Reply)
    (at : job.site ≡ site) (within : is_within first last job.counter ≡ true)
    (done : (step n (run n early) (Do site who (Command.Retire first last))).outcome ≡ Outcome.Replied reply) where
  abbrev later : World
  later = run n (early ++ Do site who (Command.Retire first last) ∷ between)

  what : IsRetiredAt n (run n early) site who first last
  what = retired_at n (run n early) site who first last reply done

  there : Has (later.site site).set (what.stamp, Retire first last)
  there = done_kept n early between site who (Command.Retire first last) what.reply (what.stamp, Retire first last) what.small what.answered

  names : retires job (what.stamp, Retire first last) ≡ true
  names = and_from (what.stamp.site == job.site) (is_within first last job.counter) (eq-eqb what.stamp.site job.site (what.at ∙ sym at)) within

  pub stays_retired : (view (later.site site).set).retired job ≡ true
  stays_retired = retired_by (later.site site).set job (what.stamp, Retire first last) there names

  -- ---- no Begin
  pub never_begins : (other : ℕ) (asker : Who) (moment : ℕ) (again : Reply) → n ≤ 16 → (step n later (Do other asker (Command.Begin job moment))).outcome ≡ Outcome.Replied again → ⊥
  never_begins other asker moment again few e =
      let new = begun n later other asker job moment again e in
      let g = run_good n (early ++ Do site who (Command.Retire first last) ∷ between) few in
      let l = cut_lawful g.0 (later.site other).set g.1.lawful (g.1.cuts other) in
      let allowed = answer_allowed (later.site other).set l other asker (Command.Begin job moment) new.reply (new.stamp, OfJob job (Begin new.beginning)) new.answered in
      let m : MayFollow g.0 new.stamp (OfJob job (Begin new.beginning)) = may g.0 (later.site other).set other (new.stamp, OfJob job (Begin new.beginning)) g.1.lawful g.1.counted (placed_all g.0 later g.1) (g.1.cuts other) (g.1.own other) allowed.0 allowed.1 in
      let s = allowed.1.grounded.0 in
      elim (g.1.closed (what.stamp, Retire first last) job ((g.1.cuts site).within _ there) names (s.0, s.1, s.2, (g.1.cuts other).within (job, Submit s.0 s.1 s.2) s.3.0)) [
        | inl f ↦ (let b = (g.1.lawful.grounded (f.0, OfJob job (Finish f.1)) f.2).1 in m.0 b.0 b.1 b.2)
        | inr idle ↦ (
            let origin : other ≡ site = sym allowed.0.site ∙ idle.1 new.stamp.site m.1 ∙ at in
            both_ways _ allowed.1.live (subst (λ i. (view (later.site i).set).retired job ≡ true) (sym origin) stays_retired))
      ]

  -- ---- no Grant
  pub never_granted : (other : ℕ) (asker : Who) (to : ℕ) (again : Reply) → (step n later (Do other asker (Command.Grant job to))).outcome ≡ Outcome.Replied again → ⊥
  never_granted other asker to again e =
      let d = is_done n later other asker (Command.Grant job to) again e in
      let r = done_clear (later.site other).set other asker (Command.Grant job to) d.reply d.new d.answered in
      let origin : other ≡ site = sym (eqb-true job.site other (not-false _ r.1.1.0)) ∙ at in
      both_ways _ (unretired (later.site other).set job (not-false _ r.0)) (subst (λ i. (view (later.site i).set).retired job ≡ true) (sym origin) stays_retired)

  -- ---- each site that takes a packet which the origin shipped after it
  pub told : (to taker k : ℕ) (late : List Event) (taken : Taken) → (step n later (Ship site to)).outcome ≡ Outcome.Packet k
      → (step n (run n ((early ++ Do site who (Command.Retire first last) ∷ between) ++ Ship site to ∷ late)) (Take taker k)).outcome ≡ Outcome.Taken taken
      → (view ((step n (run n ((early ++ Do site who (Command.Retire first last) ∷ between) ++ Ship site to ∷ late)) (Take taker k)).after.site taker).set).retired job ≡ true
  told to taker k late taken ships takes =
      retired_by _ job (what.stamp, Retire first last)
      (done_passed n early between late site to taker k who (Command.Retire first last) what.reply (what.stamp, Retire first last) taken what.small what.answered ships takes) names

-- what a site knows to be retired it never forgets
pub retired_ever_after : (n : ℕ) (early late : List Event) (site : ℕ) (job : StampValue) → (view ((run n early).site site).set).retired job ≡ true → (view ((run n (early ++ late)).site site).set).retired job ≡ true
retired_ever_after n early late site job e = retired_more ((run n early).site site).set ((run n (early ++ late)).site site).set job (run_grows n early late site) e

-- a job that a site knows to be retired is finished at the site that began it, if any did
pub retired_over : (n : ℕ) (events : List Event) → n ≤ 16 → (site other : ℕ) (job s : StampValue) (a : Beginning) → (view ((run n events).site site).set).retired job ≡ true → Has ((run n events).site other).set (s, OfJob job (Begin a))
    → (t : StampValue) × (b : Ending) × Has ((run n events).site s.site).set (t, OfJob job (Finish b))
retired_over n events few site other job s a e h =
    let w = run n events in
    let g = run_good n events few in
    let r = retiring (w.site site).set job e in
    let begun : Has g.0 (s, OfJob job (Begin a)) = (g.1.cuts other).within _ h in
    let sub = (g.1.lawful.grounded (s, OfJob job (Begin a)) begun).0 in
    elim (g.1.closed r.0 job ((g.1.cuts site).within r.0 r.1) r.2 (sub.0, sub.1, sub.2, sub.3.0)) [
      | inr idle ↦ absurd (idle.0 s a begun)
      | inl f ↦ (
          let p = placed_all g.0 w g.1 (f.0, OfJob job (Finish f.1)) f.2 in
          let same : p.0 ≡ s = g.1.lawful.one_begin job p.0 s p.1 a p.2 begun in
          let at : f.0.site ≡ s.site = sym p.3 ∙ ap (λ (x : StampValue). x.site) same in
          (f.0, f.1, g.1.own s.site (f.0, OfJob job (Finish f.1)) f.2 at))
    ]

-- a reservation that a site knows to be retired is cancelled, at some site
pub retired_cancelled : (n : ℕ) (events : List Event) → n ≤ 16 → (site other : ℕ) (id : StampValue) (window : Window) → (view ((run n events).site site).set).retired id ≡ true → Has ((run n events).site other).set (id, Reserve window)
    → (s : StampValue) × Has ((run n events).site s.site).set (s, Cancel id)
retired_cancelled n events few site other id window e h =
    let w = run n events in
    let g = run_good n events few in
    let r = retiring (w.site site).set id e in
    let c = g.1.cancelled r.0 id ((g.1.cuts site).within r.0 r.1) r.2 (window, (g.1.cuts other).within (id, Reserve window) h) in
    (c.0, g.1.own c.0.site (c.0, Cancel id) c.1 refl)

-- a job that a site knows to be retired has ended: some site has finished it, or deleted it
pub retired_ended : (n : ℕ) (events : List Event) → n ≤ 16 → (site other : ℕ) (job : StampValue) → (view ((run n events).site site).set).retired job ≡ true → HasSubmit ((run n events).site other).set job
    → ((s : StampValue) × (a : Ending) × Has ((run n events).site s.site).set (s, OfJob job (Finish a))) ⊎ ((s : StampValue) × Has ((run n events).site s.site).set (s, OfJob job Delete))
retired_ended n events few site other job e sub =
    let w = run n events in
    let g = run_good n events few in
    let r = retiring (w.site site).set job e in
    elim (g.1.closed r.0 job ((g.1.cuts site).within r.0 r.1) r.2 (sub.0, sub.1, sub.2, (g.1.cuts other).within (job, Submit sub.0 sub.1 sub.2) sub.3)) [
      | inl f ↦ inl (f.0, f.1, g.1.own f.0.site (f.0, OfJob job (Finish f.1)) f.2 refl)
      | inr idle ↦ inr (idle.2.0, g.1.own idle.2.0.site (idle.2.0, OfJob job Delete) idle.2.1 refl)
    ]
