use Rattle.std.proofs.Common.{◌≡◌, ◌≤◌, take}
use Rattle.fed_machine.specs.ChartMarks.{span_in}
use Rattle.fed_machine.proofs.chart_marks.span_of.Given as goal

abbrev pub invariant-loop-bar : goal.invariant-loop-bar
invariant-loop-bar l = record { value : l.span ≡ span_in (take l.bar-index l.bars); some : 4 ≤ l.span }
