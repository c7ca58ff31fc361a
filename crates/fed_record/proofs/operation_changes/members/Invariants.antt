use Rattle.std.proofs.Common.{◌≡◌, filter}
use Rattle.std.specs.List.{range_with_len}
use Rattle.fed_stamp.specs.SiteSet.{has}
use Rattle.fed_record.proofs.operation_changes.members.Given as goal

abbrev pub invariant-loop-number : goal.invariant-loop-number
invariant-loop-number l = l.members.items ≡ filter (has l.sites) (range_with_len 0 l.number)
