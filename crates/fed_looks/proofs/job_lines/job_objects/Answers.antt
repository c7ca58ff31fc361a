use Rattle.std.proofs.Common.{map}
use Rattle.serde_json.specs.View.{view}
use Rattle.fed_board.specs.Board.{board_reads}
use Rattle.fed_looks.specs.JobObject.{known_object}
use Rattle.fed_looks.proofs.Gathered.{gathered_more}
use Rattle.fed_looks.proofs.job_lines.job_objects.Goals as goal

pub loop-id-preserved : goal.loop-id-preserved
loop-id-preserved c = gathered_more (λ job. known_object c.args.roster.now job ((board_reads c.args.board.now).job job)) c.args.jobs.now c.loop-id.id-index c.id-item.result (map view c.loop-id.values.items) _
    c.loop-id-test.true c.id-item.is c.loop-id.invariant c.in_ok-push_named_object.ensures
