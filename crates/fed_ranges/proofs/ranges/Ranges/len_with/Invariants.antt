use Rattle.std.proofs.Common.{◌≡◌, ◌+◌, ◌≤◌, drop, length}
use Rattle.fed_ranges.specs.Ranges.{added}
use Rattle.fed_ranges.proofs.ranges.Ranges.len_with.Given as goal

abbrev pub invariant-loop-next : goal.invariant-loop-next
invariant-loop-next l = record {
  counted : l.before + length (added l.pending (drop l.next-index l.next-items)) ≡ length (added l.fn.range l.next-items);
  few : l.before ≤ l.next-index;
}
