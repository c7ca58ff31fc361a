use Rattle.std.proofs.Common.{ap, ◌∙◌}
use Rattle.serde_json.specs.Written.{has_float}
use Rattle.fed_record.specs.JobRecord.{job_reads}
use Rattle.fed_looks.proofs.JobLaws.{job_plain}
use Rattle.fed_looks.proofs.job_lines.job_line.Goals as goal

pub json_line-requires : goal.json_line-requires
json_line-requires c = ap has_float c.in_ok-value.ensures ∙ job_plain c.args.roster.now c.args.id (job_reads c.args.job.now)
