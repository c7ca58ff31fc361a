use Rattle.std.proofs.Common.{string_bytes, ◌∙◌}
use Rattle.fed_qstat.specs.PlanText.{line_of_start}
use Rattle.fed_qstat.proofs.StartLines.{line_more}
use Rattle.fed_qstat.proofs.plan_texts.start_lines.Goals as goal

pub loop-job-preserved : goal.loop-job-preserved
loop-job-preserved c = line_more (line_of_start c.args.roster.now) c.args.starts.now c.loop-job.job-index c.job-item.result (string_bytes c.loop-job.text) _ _
    c.loop-job-test.true c.job-item.is c.loop-job.invariant c.in_ok-push_str.ensures.bytes (c.as_str.ensures.value ∙ c.in_ok-line.ensures)
