use Rattle.std.proofs.Common.{◌≡◌, ◌≤◌, take}
use Rattle.fed_machine.specs.ChartMarks.{levels_in}
use Rattle.fed_machine.proofs.chart_marks.levels_of.Given as goal

abbrev pub invariant-loop-bar : goal.invariant-loop-bar
invariant-loop-bar l = record { value : l.levels ≡ levels_in l.nodes (take l.bar-index l.bars); some : 1 ≤ l.levels }
