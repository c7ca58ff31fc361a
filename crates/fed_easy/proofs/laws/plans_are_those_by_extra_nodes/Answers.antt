use Rattle.std.proofs.Common.{All}
use Rattle.fed_board.specs.Board.{board_reads}
use Rattle.fed_easy.specs.Promises.{IsSized}
use Rattle.fed_easy.specs.Queue.{waiting_in}
use Rattle.fed_easy.proofs.Sized.{whole_by_extra, without_by_extra}
use Rattle.fed_easy.proofs.laws.plans_are_those_by_extra_nodes.Goals as goal

sized : (c : goal.After-waiting_jobs_are_sized) → All (IsSized c.args.machine.now.nodes) (waiting_in c.args.site c.args.machine.now.nodes (board_reads c.args.board.now))
sized c = rw c.nodes.ensures.same at c.waiting_jobs_are_sized.ensures

pub returns-clause-plan : goal.returns-clause-plan
returns-clause-plan c = λ moment over. whole_by_extra (board_reads c.args.board.now) c.args.site c.args.machine.now (sized c) moment over

pub returns-clause-without : goal.returns-clause-without
returns-clause-without c = λ jobs moment over. without_by_extra (board_reads c.args.board.now) c.args.site c.args.machine.now (sized c) moment over jobs
