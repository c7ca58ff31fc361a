use Rattle.std.proofs.Common.{◌≡◌, []}
use Rattle.std.specs.List.{fold}
use Rattle.fed_board.specs.Board.{board_reads}
use Rattle.fed_machine.specs.ChartBars.{with_run}
use Rattle.fed_machine.specs.Machine.{runs_in}
use Rattle.fed_machine.proofs.chart_bars.runs_standing.Given as goal

abbrev pub invariant-loop-run : goal.invariant-loop-run
invariant-loop-run l = fold (with_run l.moment) l.all.keys l.run-iterator ≡ fold (with_run l.moment) [] (runs_in l.fn.here (board_reads l.board))
