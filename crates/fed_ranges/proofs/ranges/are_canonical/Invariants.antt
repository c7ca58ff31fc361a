use Rattle.std.proofs.Common.{◌↔◌, drop}
use Rattle.fed_ranges.specs.Ranges.{least_after, AreApart, IsCanonical}
use Rattle.fed_ranges.proofs.ranges.are_canonical.Given as goal

abbrev pub invariant-loop-range : goal.invariant-loop-range
invariant-loop-range l = AreApart (least_after l.last) (drop l.range-index l.ranges) ↔ IsCanonical l.ranges
