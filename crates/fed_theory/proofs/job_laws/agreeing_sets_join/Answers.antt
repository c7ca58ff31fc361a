use Rattle.fed_theory.proofs.JobLaws.{job_union}
use Rattle.fed_theory.proofs.job_laws.agreeing_sets_join.Goals as goal

pub returns : goal.returns
returns c = job_union
