-- The sets and the packets of a run are within limits.
use Rattle.std.specs.Prelude.{Some}
use Rattle.std.proofs.Common.{◌≡◌, ℕ, ◌≤◌, List, arith}
use Rattle.fed_lattice.specs.History.{History}
use Rattle.fed_model.specs.Body.{Body}
use Rattle.fed_model.specs.Lawful.{IsLawful}
use Rattle.fed_model.specs.Limits.{IsWithinLimits}
use Rattle.fed_model.specs.Packet.{Packet}
use Rattle.fed_theory.proofs.Ranged.{AreInRange}
use Rattle.fed_model.specs.declared.events.Event.{Event}
use Rattle.fed_model.specs.RangedEvents.{AreRanged}
use Rattle.fed_model.specs.Run.{World, packet, run}
use Rattle.fed_theory.proofs.Cuts.{IsCut, cut_lawful}
use Rattle.fed_theory.proofs.RangedRuns.{run_ranged}
use Rattle.fed_theory.proofs.Runs.{cut_jobs, cut_ranges, cut_reservations, IsGood, packet_Has, run_good}

-- what was made at a site the site has, so that no set names more than the site itself does
module _ (history : History Body) (w : World) (good : IsGood history w) (ops : History Body) (cut : IsCut history ops) where
  ops_lawful : IsLawful ops
  ops_lawful = cut_lawful history ops good.lawful cut

  pub cut_within : AreInRange ops → IsWithinLimits ops
  cut_within ranged = record {
    stamps = λ e h. let c = good.counted e (cut.within e h) in let small = ops_lawful.sites e h in ((omega arith, omega arith), (omega arith, omega arith));
    values = ranged;
    jobs = cut_jobs history good.lawful good.jobs ops cut;
    ranges = cut_ranges history good.lawful good.ranges ops cut;
    reservations = cut_reservations history good.lawful good.reservations ops cut;
  }

pub site_within : (n : ℕ) (events : List Event) → n ≤ 16 → AreRanged events → (i : ℕ) → IsWithinLimits ((run n events).site i).set
site_within n events few ranged i =
    let g = run_good n events few in
    cut_within g.0 (run n events) g.1 ((run n events).site i).set (g.1.cuts i) ((run_ranged n events few ranged).sites i)

pub packet_within : (n : ℕ) (events : List Event) → n ≤ 16 → AreRanged events → (k : ℕ) (p : Packet) → packet (run n events) k ≡ Some p → IsWithinLimits p.gives
packet_within n events few ranged k p at =
    let g = run_good n events few in
    let h = packet_Has (run n events) k p at in
    cut_within g.0 (run n events) g.1 p.gives (g.1.sent p h).cut ((run_ranged n events few ranged).packets p h)
