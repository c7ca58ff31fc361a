use Rattle.fed_theory.proofs.JobLaws.{job_same}
use Rattle.fed_theory.proofs.job_laws.members_alone_are_read.Goals as goal

pub returns : goal.returns
returns c ops others one same = job_same ops others same one
