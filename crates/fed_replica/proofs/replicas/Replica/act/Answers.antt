use Rattle.std.proofs.Common.{ap}
use Rattle.fed_board.specs.Board.{board_reads}
use Rattle.fed_replica.proofs.Lefts.{done_as, done_memory, unchanged_where_refused}
use Rattle.fed_replica.specs.Replica.{ReplicaValue}
use Rattle.fed_replica.specs.State.{state_of}
use Rattle.fed_replica.proofs.replicas.Replica.act.Goals as goal

pub returns-clause-done : goal.returns-clause-done
returns-clause-done c =
    done_as _ (state_of c.args.self.now) c.in_ok-answered.answered.said (state_of c.answer.new.self) c.in_ok-answered.ensures.said c.in_ok-answered.ensures.left

pub returns-clause-unchanged : goal.returns-clause-unchanged
returns-clause-unchanged c =
    unchanged_where_refused _ c.in_ok-answered.answered.said c.in_ok-answered.answered.added _ c.in_ok-answered.ensures.said c.in_ok-answered.ensures.added c.in_ok-answered.ensures.still

pub returns-in_err-answered-clause-done : goal.returns-in_err-answered-clause-done
returns-in_err-answered-clause-done c =
    done_memory _ _ _ _ c.from_residual.ensures c.in_err-answered.ensures.memory (ap (λ (r : ReplicaValue). board_reads r.board) c.in_err-answered.ensures.unchanged)
