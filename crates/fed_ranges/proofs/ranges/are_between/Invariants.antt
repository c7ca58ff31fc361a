use Rattle.std.proofs.Common.{◌↔◌, drop}
use Rattle.fed_ranges.specs.Retirements.{AreBetween}
use Rattle.fed_ranges.proofs.ranges.are_between.Given as goal

abbrev pub invariant-loop-range : goal.invariant-loop-range
invariant-loop-range l = AreBetween l.end (drop l.range-index l.ranges) ↔ AreBetween l.end l.ranges
