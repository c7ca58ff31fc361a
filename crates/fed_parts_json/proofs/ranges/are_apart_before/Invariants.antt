use Rattle.std.proofs.Common.{◌≡◌, drop}
use Rattle.fed_parts_json.specs.Retirements.{are_apart_before}
use Rattle.fed_parts_json.proofs.ranges.are_apart_before.Given as goal

abbrev pub invariant-loop-range : goal.invariant-loop-range
invariant-loop-range l = are_apart_before l.counter l.least (drop l.range-index l.ranges) ≡ are_apart_before l.counter 1 l.ranges
