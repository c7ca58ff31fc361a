use Rattle.fed_theory.proofs.KnownLaws.{untouched_job}
use Rattle.fed_theory.proofs.set_laws.untouched_jobs_are_known.Goals as goal

pub returns : goal.returns
returns c ops others job kin below = untouched_job ops others kin job below
