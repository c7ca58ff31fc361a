use Rattle.std.proofs.Common.{◌≡◌}
use Rattle.std.specs.List.{fold}
use Rattle.fed_machine.specs.ChartBars.{with_reserved}
use Rattle.fed_machine.proofs.chart_bars.add_all_reserved.Given as goal

abbrev pub invariant-loop-reserved : goal.invariant-loop-reserved
invariant-loop-reserved l = fold (with_reserved l.moment) l.bars.items l.reserved-iterator ≡ fold (with_reserved l.moment) l.initial.bars.items l.all.keys
