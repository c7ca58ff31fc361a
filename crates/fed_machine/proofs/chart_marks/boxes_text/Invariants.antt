use Rattle.std.proofs.Common.{◌≡◌, flat_map, string_bytes, take}
use Rattle.fed_machine.specs.ChartMarks.{text_of_box}
use Rattle.fed_machine.proofs.chart_marks.boxes_text.Given as goal

abbrev pub invariant-loop-bar : goal.invariant-loop-bar
invariant-loop-bar l = string_bytes l.text ≡ flat_map (text_of_box l.roster l.moment l.span l.levels) (take l.bar-index l.bars)
