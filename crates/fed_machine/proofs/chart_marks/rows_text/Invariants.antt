use Rattle.std.proofs.Common.{◌≡◌, flat_map, string_bytes, take}
use Rattle.fed_machine.specs.ChartMarks.{text_of_row}
use Rattle.fed_machine.proofs.chart_marks.rows_text.Given as goal

abbrev pub invariant-loop-bar : goal.invariant-loop-bar
invariant-loop-bar l = string_bytes l.text ≡ flat_map (text_of_row l.roster l.moment) (take l.bar-index l.bars)
