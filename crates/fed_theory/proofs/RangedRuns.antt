-- The operations are in range, in every run of events that are.
use Rattle.std.specs.Prelude.{nat_lt, Option, Some, None}
use Rattle.std.proofs.Common.{◌≡◌, ◌≤◌, ℕ, List, [], ◌∷◌, ◌&&◌, refl, subst, inl, inr}
use Rattle.std.proofs.lemmas.List.Elements.{All-head, All-tail}
use Rattle.fed_stamp.specs.Stamp.{StampValue}
use Rattle.fed_lattice.specs.Sets.{Has}
use Rattle.fed_lattice.specs.SetLaws.{Has-cases, Has-push}
use Rattle.fed_lattice.specs.VersionOf.{version_of}
use Rattle.fed_model.specs.declared.askers.Who.{Who}
use Rattle.fed_model.specs.declared.commands.Command.{Command}
use Rattle.fed_model.specs.Body.{Body}
use Rattle.fed_model.specs.Answer.{Answer, Answer.Refuses, Answer.Replies, answer}
use Rattle.fed_model.specs.Packet.{Site, Packet, shipped, missing, taken, takes_unless}
use Rattle.fed_model.specs.Ranges.{IsInRange, IsRanged}
use Rattle.fed_theory.proofs.Ranged.{AreInRange, answer_ranged}
use Rattle.fed_model.specs.declared.events.Event.{Event}
use Rattle.fed_model.specs.declared.events.Event.TheVariants.{Do, Ship, Take}
use Rattle.fed_model.specs.declared.outcomes.Outcome.{Outcome}
use Rattle.fed_model.specs.Run.{World, start, with_operation, packet, stays, does, ships, receives, takes, step, run_from, run}
use Rattle.fed_model.specs.RangedEvents.{IsRangedEvent, AreRanged}
use Rattle.fed_theory.proofs.Cuts.{cut_lawful}
use Rattle.fed_theory.proofs.Runs.{put_cases, either, packet_Has, Good, start_good, step_good}

pub record IsRangedWorld (w : World) : Type 0 where
  pub sites : (i : ℕ) → AreInRange (w.site i).set
  pub packets : (p : Packet) → Has w.packets p → AreInRange p.gives

start_ranged : IsRangedWorld start
start_ranged = record { sites = λ i e h. absurd h; packets = λ p h. absurd h }

does_ranged : (w : World) (here : ℕ) (who : Who) (command : Command) (said : Answer) → Good w → IsRanged who command → answer (w.site here).set here who command ≡ said → IsRangedWorld w → IsRangedWorld (does w here said).after
does_ranged w here who command (Refuses refusal) good t is g = g
does_ranged w here who command (Replies reply None) good t is g = g
does_ranged w here who command (Replies reply (Some new)) good t is g = record {
  sites = put_cases (λ j (s : Site). AreInRange s.set) w.site here (with_operation (w.site here) new)
      (λ e h. elim (Has-push (w.site here).set new e h) [
        | inl k ↦ g.sites here e k
        | inr q ↦ subst (λ (x : StampValue × Body). IsInRange x.1) q (answer_ranged (w.site here).set (cut_lawful good.0 (w.site here).set good.1.lawful (good.1.cuts here)) (g.sites here) here who command t reply new is)
      ])
      g.sites;
  packets = g.packets;
}

ships_ranged : (w : World) (here to : ℕ) → IsRangedWorld w → IsRangedWorld (ships w here to).after
ships_ranged w here to g = record {
  sites = g.sites;
  packets = λ p h. elim (Has-push w.packets (shipped here (w.site here) to) p h) [
    | inl k ↦ g.packets p k
    | inr e ↦ subst (λ (q : Packet). AreInRange q.gives) e (g.sites here)
  ];
}

receives_ranged : (w : World) (here : ℕ) (p : Packet) (lacks : Option ℕ) → AreInRange p.gives → IsRangedWorld w → IsRangedWorld (receives w here (takes_unless lacks (w.site here) p)).after
receives_ranged w here p (Some from) t g = g
receives_ranged w here p None t g = record {
  sites = put_cases (λ j (s : Site). AreInRange s.set) w.site here (taken (w.site here) p)
      (λ e h. elim (Has-cases (w.site here).set p.gives e h) [ inl k ↦ g.sites here e k | inr k ↦ t e k ])
      g.sites;
  packets = g.packets;
}

takes_ranged : (w : World) (here k : ℕ) → IsRangedWorld w → IsRangedWorld (takes w here (packet w k)).after
takes_ranged w here k g = go (packet w k) refl
  where
    go : (o : Option Packet) → packet w k ≡ o → IsRangedWorld (takes w here o).after
    go None is = g
    go (Some p) is = receives_ranged w here p (missing p.need (version_of (w.site here).set)) (g.packets p (packet_Has w k p is)) g

step_ranged : (n : ℕ) (w : World) (event : Event) → Good w → IsRangedEvent event → IsRangedWorld w → IsRangedWorld (step n w event).after
step_ranged n w (Do site who command) good t g =
    either IsRangedWorld (nat_lt site n) (does w site (answer (w.site site).set site who command)) (stays w Outcome.NoSite)
    (does_ranged w site who command (answer (w.site site).set site who command) good t refl g) g
step_ranged n w (Ship site to) good t g =
    either IsRangedWorld (nat_lt site n && nat_lt to n) (ships w site to) (stays w Outcome.NoSite) (ships_ranged w site to g) g
step_ranged n w (Take site k) good t g =
    either IsRangedWorld (nat_lt site n) (takes w site (packet w k)) (stays w Outcome.NoSite) (takes_ranged w site k g) g

run_from_ranged : (n : ℕ) (w : World) (events : List Event) → n ≤ 16 → Good w → AreRanged events → IsRangedWorld w → IsRangedWorld (run_from n w events)
run_from_ranged n w [] few good t g = g
run_from_ranged n w (event ∷ events) few good t g =
    run_from_ranged n (step n w event).after events few (step_good n w event few good) (All-tail IsRangedEvent event events t) (step_ranged n w event good (All-head IsRangedEvent event events t) g)

pub run_ranged : (n : ℕ) (events : List Event) → n ≤ 16 → AreRanged events → IsRangedWorld (run n events)
run_ranged n events few t = run_from_ranged n start events few start_good t start_ranged
