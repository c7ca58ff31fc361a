use Rattle.fed_theory.proofs.RetiredRuns.{retired_ended}
use Rattle.fed_theory.proofs.run_laws.retired_jobs_have_ended.Goals as goal

pub returns : goal.returns
returns c n events few site other job e sub = retired_ended n events few site other job e sub
