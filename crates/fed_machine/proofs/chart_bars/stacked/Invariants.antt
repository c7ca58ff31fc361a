use Rattle.std.proofs.Common.{◌≡◌, [], take}
use Rattle.std.specs.List.{fold}
use Rattle.fed_machine.specs.ChartBars.{with_standing}
use Rattle.fed_machine.proofs.chart_bars.stacked.Given as goal

abbrev pub invariant-loop-standing : goal.invariant-loop-standing
invariant-loop-standing l = l.bars.items ≡ fold with_standing [] (take l.standing-index l.row)
