use Rattle.std.proofs.Common.{◌≡◌, ◌++◌, map, take, drop, length}
use Rattle.fed_easy.specs.Profile.{raised}
use Rattle.fed_easy.proofs.profiles.raise.Given as goal

abbrev pub invariant-loop-i : goal.invariant-loop-i
invariant-loop-i l = record {
  items : l.steps.items ≡ map (raised l.capacity l.from l.until l.nodes) (take l.i l.fn.steps.items) ++ drop l.i l.fn.steps.items;
  end : l.i-end ≡ length l.fn.steps.items;
}
