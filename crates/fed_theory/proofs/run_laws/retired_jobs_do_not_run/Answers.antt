use Rattle.fed_theory.proofs.RetiredRuns.{retired_over}
use Rattle.fed_theory.proofs.run_laws.retired_jobs_do_not_run.Goals as goal

pub returns : goal.returns
returns c n events few site other job s a e h = retired_over n events few site other job s a e h
