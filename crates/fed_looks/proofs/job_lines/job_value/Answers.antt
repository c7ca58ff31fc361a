use Rattle.serde_json.proofs.Views.{view-Object}
use Rattle.fed_record.specs.JobRecord.{job_reads}
use Rattle.fed_looks.proofs.JobLaws.{members_are}
use Rattle.fed_looks.proofs.job_lines.job_value.Goals as goal

pub returns : goal.returns
returns c =
    rw (view-Object c.put_sets.new.members, c.in_ok-put_sets.ensures, c.in_ok-put_stages.ensures, c.in_ok-put_numbers.ensures, c.in_ok-put_names.ensures, c.new-members.ensures.empty)
    (members_are c.args.roster.now c.args.id (job_reads c.args.job.now))
