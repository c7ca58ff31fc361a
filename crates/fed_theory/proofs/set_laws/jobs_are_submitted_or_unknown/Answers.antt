use Rattle.fed_theory.proofs.SubmitLaws.{unknown_job, unknown_view}
use Rattle.fed_theory.proofs.set_laws.jobs_are_submitted_or_unknown.Goals as goal

pub returns-clause-operations : goal.returns-clause-operations
returns-clause-operations c ops job l r e = unknown_job ops job l r e

pub returns-clause-reads : goal.returns-clause-reads
returns-clause-reads c ops job l e = unknown_view ops job l e
