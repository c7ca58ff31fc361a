use Rattle.std.proofs.Common.{◌≡◌, drop}
use Rattle.fed_ranges.specs.Ranges.{joined}
use Rattle.fed_ranges.proofs.ranges.Ranges.join.Given as goal

abbrev pub invariant-loop-range : goal.invariant-loop-range
invariant-loop-range l = joined l.union (drop l.range-index l.range-items) ≡ joined l.fn.self l.range-items
