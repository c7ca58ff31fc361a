use Rattle.fed_theory.proofs.JobLaws.{job_more}
use Rattle.fed_theory.proofs.job_laws.additions_are_read.Goals as goal

pub returns : goal.returns
returns c = job_more
