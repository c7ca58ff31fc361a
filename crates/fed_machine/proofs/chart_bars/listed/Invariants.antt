use Rattle.std.proofs.Common.{◌≡◌, ◌++◌}
use Rattle.fed_machine.proofs.chart_bars.listed.Given as goal

abbrev pub invariant-loop-standing : goal.invariant-loop-standing
invariant-loop-standing l = l.row.items ++ l.standing-iterator ≡ l.all.keys
