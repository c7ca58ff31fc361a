use Rattle.std.proofs.Common.{◌≡◌, drop, leb}
use Rattle.fed_easy.specs.Profile.{IsAfter}
use Rattle.fed_easy.proofs.Shadow.{search_from}
use Rattle.fed_easy.proofs.profiles.Profile.shadow.Given as goal

abbrev pub invariant-loop-step : goal.invariant-loop-step
invariant-loop-step l = record {
  same : search_from l.most l.limit l.self.start (leb l.self.nodes l.most) l.self.steps.items ≡ search_from l.most l.limit l.candidate l.has_room (drop l.step-index l.step-items);
  after : IsAfter l.candidate (drop l.step-index l.step-items);
}
