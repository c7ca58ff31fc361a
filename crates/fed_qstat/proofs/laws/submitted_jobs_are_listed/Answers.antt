use Rattle.fed_qstat.proofs.BoardJobs.{jobs_ascend}
use Rattle.fed_qstat.proofs.ListedSets.{set_listed}
use Rattle.fed_qstat.proofs.laws.submitted_jobs_are_listed.Goals as goal

pub returns-clause-ascending : goal.returns-clause-ascending
returns-clause-ascending c = jobs_ascend

pub returns-clause-all : goal.returns-clause-all
returns-clause-all c = set_listed
