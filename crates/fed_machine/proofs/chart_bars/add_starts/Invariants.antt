use Rattle.std.proofs.Common.{◌≡◌, take}
use Rattle.std.specs.List.{fold}
use Rattle.fed_board.specs.Board.{board_reads}
use Rattle.fed_machine.specs.ChartBars.{with_start}
use Rattle.fed_machine.proofs.chart_bars.add_starts.Given as goal

abbrev pub invariant-loop-start : goal.invariant-loop-start
invariant-loop-start l = l.all.keys ≡ fold (with_start (board_reads l.board)) l.initial.all.keys (take l.start-index l.starts)
