use Rattle.fed_theory.proofs.Runs.{run-push, outcomes-push}
use Rattle.fed_theory.proofs.run_laws.runs_go_on.Goals as goal

pub returns-clause-run : goal.returns-clause-run
returns-clause-run c = run-push

pub returns-clause-outcomes : goal.returns-clause-outcomes
returns-clause-outcomes c = outcomes-push
