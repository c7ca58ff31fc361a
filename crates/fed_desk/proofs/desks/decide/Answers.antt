use Rattle.std.proofs.Common.{sym}
use Rattle.fed_board.specs.Board.{board_reads}
use Rattle.fed_desk.proofs.desks.decide.Goals as goal

pub returns-in-Some : goal.returns-in-Some
returns-in-Some c = c.decide_on.ensures (board_reads c.args.board.now) (sym c.in-Some.ensures.reads.0)
