use Rattle.std.proofs.Common.{◌≡◌, take}
use Rattle.fed_machine.specs.ChartBars.{level_above}
use Rattle.fed_machine.proofs.chart_bars.level_over.Given as goal

abbrev pub invariant-loop-bar : goal.invariant-loop-bar
invariant-loop-bar l = l.level ≡ level_above l.from l.seconds (take l.bar-index l.bars)
