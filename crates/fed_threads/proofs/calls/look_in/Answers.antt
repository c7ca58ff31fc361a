use Rattle.fed_threads.specs.Seat.{known_by}
use Rattle.fed_threads.proofs.CallFaults.{behind, wanting}
use Rattle.fed_threads.proofs.calls.look_in.Goals as goal

pub returns-in_err-check-clause-behind : goal.returns-in_err-check-clause-behind
returns-in_err-check-clause-behind c =
    behind c.args.locked.now (known_by c.args.seat.now) c.args.site c.len-found.result c.version-version.result c.len-found.ensures c.version-version.ensures.value c.from_residual.result c.in_err-check.field-0.0 c.in_err-check.ensures.err c.from_residual.ensures.1

pub returns-in_err-board-clause-behind : goal.returns-in_err-board-clause-behind
returns-in_err-board-clause-behind c =
    wanting c.args.locked.now (known_by c.args.seat.now) c.args.site c.len-found.result c.version-version.result c.len-found.ensures c.version-version.ensures.value c.from_residual-in_err-board.result c.in_ok-check.ensures.ok c.from_residual-in_err-board.ensures.1
