use Rattle.std.proofs.Common.{◌≡◌, ◌++◌, take, drop}
use Rattle.fed_easy.proofs.Split.{split_at}
use Rattle.fed_easy.proofs.profiles.split.Given as goal

abbrev pub invariant-loop-step : goal.invariant-loop-step
invariant-loop-step l = record {
  count : l.count ≡ l.step-index;
  same : split_at l.second l.nodes l.step-items ≡ take l.step-index l.step-items ++ split_at l.second l.level (drop l.step-index l.step-items);
}
