use Rattle.std.proofs.Common.{◌≡◌, flat_map, string_bytes}
use Rattle.std.specs.List.{range_with_len}
use Rattle.fed_machine.specs.Chart.{text_of_tick}
use Rattle.fed_machine.proofs.chart.ticks_text.Given as goal

abbrev pub invariant-loop-quarters : goal.invariant-loop-quarters
invariant-loop-quarters l = string_bytes l.text ≡ flat_map (text_of_tick l.moment l.span) (range_with_len 0 l.quarters)
