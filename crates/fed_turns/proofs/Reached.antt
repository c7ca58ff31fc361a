-- Worlds that runs of events in range reach.
use Rattle.std.specs.Prelude.{nat_lt, Option, Some, None}
use Rattle.std.proofs.Common.{◌≡◌, ◌≤◌, ◌<◌, ℕ, List, [], ◌∷◌, ◌++◌, ◌&&◌, length, refl, subst, ap, ◌∙◌, inl, inr, arith}
use Rattle.std.proofs.lemmas.Bool.{and_parts, ltb-true}
use Rattle.std.proofs.lemmas.List.Elements.{All-nil, All-push, All-head, All-tail}
use Rattle.fed_stamp.specs.Stamp.{StampValue}
use Rattle.fed_lattice.specs.Sets.{Has}
use Rattle.fed_lattice.specs.SetLaws.{Has-cases, Has-push}
use Rattle.fed_lattice.specs.VersionOf.{version_of}
use Rattle.fed_model.specs.declared.askers.Who.{Who}
use Rattle.fed_model.specs.declared.commands.Command.{Command}
use Rattle.fed_model.specs.Body.{Body}
use Rattle.fed_model.specs.Lawful.{IsLawful}
use Rattle.fed_model.specs.Limits.{IsWithinLimits}
use Rattle.fed_model.specs.Answer.{Answer, Answer.Refuses, Answer.Replies, answer}
use Rattle.fed_model.specs.Packet.{Site, Packet, shipped, missing, taken, takes_unless}
use Rattle.fed_theory.proofs.Allowed.{answer_allowed}
use Rattle.fed_model.specs.declared.events.Event.{Event}
use Rattle.fed_model.specs.declared.events.Event.TheVariants.{Do, Ship, Take}
use Rattle.fed_model.specs.declared.outcomes.Outcome.{Outcome}
use Rattle.fed_model.specs.RangedEvents.{IsRangedEvent, AreRanged}
use Rattle.fed_model.specs.Run.{World, start, packet, with_operation, stays, does, ships, receives, takes, step, run_from, run}
use Rattle.fed_theory.proofs.Cuts.{cut_lawful}
use Rattle.fed_theory.proofs.HeardLaws.{heard_counters}
use Rattle.fed_theory.proofs.RunSteps.{site_lawful}
use Rattle.fed_theory.proofs.PacketLimits.{site_within}
use Rattle.fed_theory.proofs.Runs.{Good, either_if, packet_Has, put_cases, run_good, run-push, start_good, step_good}

-- a run of events in range ends there
pub record Reached (n : ℕ) (w : World) : Type 0 where
  pub events : List Event
  pub ranged : AreRanged events
  pub is : run n events ≡ w

pub start_reached : (n : ℕ) → Reached n start
start_reached n = record { events = []; ranged = All-nil IsRangedEvent; is = refl }

pub step_reached : (n : ℕ) (w : World) (event : Event) → IsRangedEvent event → Reached n w → Reached n (step n w event).after
step_reached n w event ranged r = record {
  events = r.events ++ event ∷ [];
  ranged = All-push IsRangedEvent r.events event r.ranged ranged;
  is = run-push n r.events event ∙ ap (λ v. (step n v event).after) r.is;
}

pub run_reached : (n : ℕ) (events : List Event) (w : World) → AreRanged events → Reached n w → Reached n (run_from n w events)
run_reached n [] w ranged r = r
run_reached n (event ∷ events) w ranged r = run_reached n events (step n w event).after (All-tail IsRangedEvent event events ranged) (step_reached n w event (All-head IsRangedEvent event events ranged) r)

-- ---- in a run of n sites nothing is of another site
pub record IsOfSites (n : ℕ) (w : World) : Type 0 where
  pub sets : (i : ℕ) (e : StampValue × Body) → Has (w.site i).set e → e.0.site < n
  pub senders : (p : Packet) → Has w.packets p → p.sender < n
  pub gives : (p : Packet) → Has w.packets p → (e : StampValue × Body) → Has p.gives e → e.0.site < n

start_of : (n : ℕ) → IsOfSites n start
start_of n = record { sets = λ i e h. absurd h; senders = λ p h. absurd h; gives = λ p h. absurd h }

does_of : (n : ℕ) (w : World) (i : ℕ) (who : Who) (command : Command) (said : Answer) → i < n → Good w → answer (w.site i).set i who command ≡ said → IsOfSites n w → IsOfSites n (does w i said).after
does_of n w i who command (Refuses refusal) small good is h = h
does_of n w i who command (Replies reply None) small good is h = h
does_of n w i who command (Replies reply (Some new)) small good is h = record {
  sets = put_cases (λ j (s : Site). (e : StampValue × Body) → Has s.set e → e.0.site < n) w.site i (with_operation (w.site i) new)
      (λ e k. elim (Has-push (w.site i).set new e k) [
        | inl old ↦ h.sets i e old
        | inr q ↦ (
            let at = (answer_allowed (w.site i).set (cut_lawful good.0 (w.site i).set good.1.lawful (good.1.cuts i)) i who command reply new is).0.site in
            let below : new.0.site < n = omega arith in subst (λ (x : StampValue × Body). x.0.site < n) q below)
      ])
      h.sets;
  senders = h.senders;
  gives = h.gives;
}

ships_of : (n : ℕ) (w : World) (i to : ℕ) → i < n → IsOfSites n w → IsOfSites n (ships w i to).after
ships_of n w i to small h = record {
  sets = h.sets;
  senders = λ p k. elim (Has-push w.packets (shipped i (w.site i) to) p k) [
    | inl old ↦ h.senders p old
    | inr e ↦ subst (λ (q : Packet). q.sender < n) e small
  ];
  gives = λ p k. elim (Has-push w.packets (shipped i (w.site i) to) p k) [
    | inl old ↦ h.gives p old
    | inr e ↦ subst (λ (q : Packet). (x : StampValue × Body) → Has q.gives x → x.0.site < n) e (h.sets i)
  ];
}

receives_of : (n : ℕ) (w : World) (i : ℕ) (p : Packet) (lacks : Option ℕ) → Has w.packets p → IsOfSites n w → IsOfSites n (receives w i (takes_unless lacks (w.site i) p)).after
receives_of n w i p (Some from) at h = h
receives_of n w i p None at h = record {
  sets = put_cases (λ j (s : Site). (e : StampValue × Body) → Has s.set e → e.0.site < n) w.site i (taken (w.site i) p)
      (λ e k. elim (Has-cases (w.site i).set p.gives e k) [ inl old ↦ h.sets i e old | inr new ↦ h.gives p at e new ])
      h.sets;
  senders = h.senders;
  gives = h.gives;
}

takes_of : (n : ℕ) (w : World) (i k : ℕ) → IsOfSites n w → IsOfSites n (takes w i (packet w k)).after
takes_of n w i k h = go (packet w k) refl
  where
    go : (o : Option Packet) → packet w k ≡ o → IsOfSites n (takes w i o).after
    go None is = h
    go (Some p) is = receives_of n w i p (missing p.need (version_of (w.site i).set)) (packet_Has w k p is) h

step_of : (n : ℕ) (w : World) (event : Event) → Good w → IsOfSites n w → IsOfSites n (step n w event).after
step_of n w (Do site who command) good h =
    either_if (IsOfSites n) (nat_lt site n) (does w site (answer (w.site site).set site who command)) (stays w Outcome.NoSite)
    (λ e. does_of n w site who command (answer (w.site site).set site who command) (ltb-true site n e) good refl h) h
step_of n w (Ship site to) good h =
    either_if (IsOfSites n) (nat_lt site n && nat_lt to n) (ships w site to) (stays w Outcome.NoSite) (λ e. ships_of n w site to (ltb-true site n (and_parts (nat_lt site n) (nat_lt to n) e).0) h) h
step_of n w (Take site k) good h =
    either_if (IsOfSites n) (nat_lt site n) (takes w site (packet w k)) (stays w Outcome.NoSite) (λ e. takes_of n w site k h) h

run_from_of : (n : ℕ) (w : World) (events : List Event) → n ≤ 16 → Good w → IsOfSites n w → IsOfSites n (run_from n w events)
run_from_of n w [] few good h = h
run_from_of n w (event ∷ events) few good h = run_from_of n (step n w event).after events few (step_good n w event few good) (step_of n w event good h)

pub run_of_sites : (n : ℕ) (events : List Event) → n ≤ 16 → IsOfSites n (run n events)
run_of_sites n events few = run_from_of n start events few start_good (start_of n)

-- ---- what holds there
module _ (n : ℕ) (few : n ≤ 16) (w : World) (r : Reached n w) where
  pub good : Good w
  good = subst Good r.is (run_good n r.events few)

  pub lawful : (i : ℕ) → IsLawful (w.site i).set
  lawful i = subst (λ (v : World). IsLawful (v.site i).set) r.is (site_lawful n r.events few i)

  pub within : (i : ℕ) → IsWithinLimits (w.site i).set
  within i = subst (λ (v : World). IsWithinLimits (v.site i).set) r.is (site_within n r.events few r.ranged i)

  pub counters : (i from : ℕ) → length ((w.site i).heard from) ≡ 16
  counters i from = subst (λ (v : World). length ((v.site i).heard from) ≡ 16) r.is (heard_counters n r.events few i from)

  pub of_sites : IsOfSites n w
  of_sites = subst (IsOfSites n) r.is (run_of_sites n r.events few)
