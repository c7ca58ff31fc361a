use Rattle.std.proofs.Common.{◌≡◌, ◌++◌, filter}
use Rattle.std.specs.Map.{keys_of}
use Rattle.fed_ranges.specs.Retired.{has_retired}
use Rattle.fed_board.proofs.retiring.add_retired.Given as goal

abbrev pub invariant-loop-id : goal.invariant-loop-id
invariant-loop-id g l = l.ids.items ++ filter (has_retired l.retired) (keys_of l.id-iterator) ≡ l.fn.ids.items ++ filter (has_retired l.retired) (keys_of l.table)
