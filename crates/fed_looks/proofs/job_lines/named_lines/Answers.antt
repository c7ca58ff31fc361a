use Rattle.std.proofs.Common.{string_bytes, refl}
use Rattle.fed_board.specs.Board.{board_reads}
use Rattle.fed_qstat.proofs.StartLines.{line_more}
use Rattle.fed_looks.specs.JobObject.{known_line}
use Rattle.fed_looks.proofs.job_lines.named_lines.Goals as goal

pub loop-id-preserved : goal.loop-id-preserved
loop-id-preserved c = line_more (λ job. known_line c.args.roster.now job ((board_reads c.args.board.now).job job)) c.args.ids.now c.loop-id.id-index c.id-item.result (string_bytes c.loop-id.text) _ _
    c.loop-id-test.true c.id-item.is c.loop-id.invariant c.in_ok-push_named.ensures refl
