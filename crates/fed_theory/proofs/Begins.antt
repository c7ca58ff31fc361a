-- One Begin of a job is done at most.
use Rattle.std.specs.Prelude.{if◌then◌else◌, nat_lt, Option, Some, None, Result, Ok, Err}
use Rattle.std.proofs.Common.{◌≡◌, ℕ, ◌≤◌, List, ◌∷◌, ◌++◌, Bool, true, false, refl, sym, ap, subst}
use Rattle.fed_stamp.specs.declared.versions.ClockFull.{ClockFull}
use Rattle.fed_stamp.specs.Stamp.{StampValue}
use Rattle.fed_stamp.specs.Version.{next_stamp}
use Rattle.fed_lattice.specs.Sets.{Has}
use Rattle.fed_lattice.specs.SetLaws.{Has-last}
use Rattle.fed_lattice.specs.History.{History}
use Rattle.fed_lattice.specs.VersionOf.{version_of}
use Rattle.fed_model.specs.declared.askers.Who.{Who}
use Rattle.fed_model.specs.declared.commands.Command.{Command}
use Rattle.fed_model.specs.declared.beginnings.Beginning.{Beginning}
use Rattle.fed_model.specs.declared.refusals.Refusal.{Refusal}
use Rattle.fed_model.specs.declared.replies.Reply.{Reply}
use Rattle.fed_model.specs.Body.{Body, Body.OfJob, JobBody.Begin}
use Rattle.fed_model.specs.View.{view}
use Rattle.fed_theory.specs.MayFollow.{MayFollow}
use Rattle.fed_model.specs.Answer.{Answer, Answer.Refuses, Answer.Replies, beginning, effect, replies, answer_unless, answer_to, answer}
use Rattle.fed_model.specs.Packet.{Site}
use Rattle.fed_model.specs.Desk.{first_of}
use Rattle.fed_model.specs.Refusals.{refusals}
use Rattle.fed_theory.proofs.Allowed.{answer_allowed}
use Rattle.fed_model.specs.declared.events.Event.{Event}
use Rattle.fed_model.specs.declared.events.Event.TheVariants.{Do}
use Rattle.fed_model.specs.declared.outcomes.Outcome.{Outcome}
use Rattle.fed_model.specs.Run.{World, start, with_operation, stays, does, step, run}
use Rattle.fed_theory.proofs.Cuts.{cut_lawful}
use Rattle.fed_theory.proofs.Growth.{may}
use Rattle.fed_theory.proofs.Runs.{put_same, placed_all, run_good, run-append, run_from_grows}

-- a Begin that is not refused adds a Begin
begin_adds : (ops : History Body) (here : ℕ) (who : Who) (job : StampValue) (moment : ℕ) (reply : Reply) (new : Option (StampValue × Body)) → answer ops here who (Command.Begin job moment) ≡ Replies reply new
    → (t : StampValue) × (a : Beginning) × (new ≡ Some (t, OfJob job (Begin a)))
unfolding answer_to
begin_adds ops here who job moment reply new e =
    go (first_of (refusals (view ops) here who (Command.Begin job moment))) (next_stamp (version_of ops) here) e
  where
    go : (r : Option Refusal) (n : Result StampValue ClockFull) → answer_unless r (replies n (Command.Begin job moment) (effect (view ops) who (Command.Begin job moment))) ≡ Replies reply new → (t : StampValue) × (a : Beginning) × (new ≡ Some (t, OfJob job (Begin a)))
    go (Some r) n f = cc
    go None (Err full) f = cc
    go None (Ok t) f =
        let a : Beginning = beginning ((view ops).job job) moment in
        let p : new ≡ Some (t, OfJob job (Begin a)) = cc in (t, a, p)

-- the operation that a Begin that is done adds
pub record IsBegun (w : World) (n here : ℕ) (who : Who) (job : StampValue) (moment : ℕ) : Type 0 where
  pub stamp : StampValue
  pub beginning : Beginning
  pub reply : Reply
  pub answered : answer (w.site here).set here who (Command.Begin job moment) ≡ Replies reply (Some (stamp, OfJob job (Begin beginning)))
  pub added : Has ((step n w (Do here who (Command.Begin job moment))).after.site here).set (stamp, OfJob job (Begin beginning))

pub begun : (n : ℕ) (w : World) (here : ℕ) (who : Who) (job : StampValue) (moment : ℕ) (reply : Reply) → (step n w (Do here who (Command.Begin job moment))).outcome ≡ Outcome.Replied reply → IsBegun w n here who job moment
begun n w here who job moment reply e =
    let r = go (nat_lt here n) (answer (w.site here).set here who (Command.Begin job moment)) refl e in
    record { stamp = r.0; beginning = r.1; reply = r.2; answered = r.3; added = r.4 }
  where
    go : (b : Bool) (said : Answer) → answer (w.site here).set here who (Command.Begin job moment) ≡ said → (if b then does w here said else stays w Outcome.NoSite).outcome ≡ Outcome.Replied reply
        → (t : StampValue) × (a : Beginning) × (reply : Reply) × (said ≡ Replies reply (Some (t, OfJob job (Begin a)))) × Has ((if b then does w here said else stays w Outcome.NoSite).after.site here).set (t, OfJob job (Begin a))
    go false said is f = cc
    go true (Refuses refusal) is f = cc
    go true (Replies r new) is f =
        let p = begin_adds (w.site here).set here who job moment r new is in
        let same : Replies r new ≡ Replies r (Some (p.0, OfJob job (Begin p.1))) = ap (Replies r) p.2 in (
          p.0,
          p.1,
          r,
          same,
          subst (λ (said : Answer). Has ((does w here said).after.site here).set (p.0, OfJob job (Begin p.1))) (sym same)
              (subst (λ (s : Site). Has s.set (p.0, OfJob job (Begin p.1))) (sym (put_same w.site here (with_operation (w.site here) (p.0, OfJob job (Begin p.1))))) (Has-last (w.site here).set (p.0, OfJob job (Begin p.1)))),
        )

pub done_once : (n : ℕ) (early between : List Event) (a b : ℕ) (who other : Who) (job : StampValue) (moment later : ℕ) (reply again : Reply) → n ≤ 16 → (step n (run n early) (Do a who (Command.Begin job moment))).outcome ≡ Outcome.Replied reply
    → (step n (run n (early ++ Do a who (Command.Begin job moment) ∷ between)) (Do b other (Command.Begin job later))).outcome ≡ Outcome.Replied again → ⊥
done_once n early between a b who other job moment later reply again few first second =
    let event : Event = Do a who (Command.Begin job moment) in
    let w = run n early in
    let v = run n (early ++ event ∷ between) in
    let old = begun n w a who job moment reply first in
    let there : Has (v.site a).set (old.stamp, OfJob job (Begin old.beginning)) =
    subst (λ (u : World). Has (u.site a).set (old.stamp, OfJob job (Begin old.beginning))) (sym (run-append n start early (event ∷ between))) (run_from_grows n (step n w event).after between a _ old.added) in
    let new = begun n v b other job later again second in
    let g = run_good n (early ++ event ∷ between) few in
    let l = cut_lawful g.0 (v.site b).set g.1.lawful (g.1.cuts b) in
    let allowed = answer_allowed (v.site b).set l b other (Command.Begin job later) new.reply (new.stamp, OfJob job (Begin new.beginning)) new.answered in
    let m : MayFollow g.0 new.stamp (OfJob job (Begin new.beginning)) = may g.0 (v.site b).set b (new.stamp, OfJob job (Begin new.beginning)) g.1.lawful g.1.counted (placed_all g.0 v g.1) (g.1.cuts b) (g.1.own b) allowed.0 allowed.1 in
    m.0 old.stamp old.beginning ((g.1.cuts a).within _ there)
