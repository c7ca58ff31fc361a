use Rattle.fed_board.specs.Board.{board_reads}
use Rattle.fed_machine.proofs.ChartApart.{chart_apart}
use Rattle.fed_machine.proofs.chart.chart_svg.Goals as goal

pub returns-in_err-found-clause-apart : goal.returns-in_err-found-clause-apart
returns-in_err-found-clause-apart c = chart_apart c.args.roster.now (board_reads c.args.board.now) c.args.here c.args.moment

pub returns-in_err-bars-clause-apart : goal.returns-in_err-bars-clause-apart
returns-in_err-bars-clause-apart c = chart_apart c.args.roster.now (board_reads c.args.board.now) c.args.here c.args.moment

pub returns-in_err-picture-clause-apart : goal.returns-in_err-picture-clause-apart
returns-in_err-picture-clause-apart c = chart_apart c.args.roster.now (board_reads c.args.board.now) c.args.here c.args.moment

pub returns-clause-apart : goal.returns-clause-apart
returns-clause-apart c = chart_apart c.args.roster.now (board_reads c.args.board.now) c.args.here c.args.moment
