use Rattle.std.proofs.Common.{◌≡◌, ◌++◌, drop}
use Rattle.fed_ranges.specs.Ranges.{added}
use Rattle.fed_ranges.proofs.ranges.with_range.Given as goal

abbrev pub invariant-loop-next : goal.invariant-loop-next
invariant-loop-next l = l.out.items ++ added l.pending (drop l.next-index l.ranges) ≡ added l.fn.range l.fn.ranges
