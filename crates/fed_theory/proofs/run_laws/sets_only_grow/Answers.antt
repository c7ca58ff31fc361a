use Rattle.fed_theory.proofs.Runs.{run_grows}
use Rattle.fed_theory.proofs.run_laws.sets_only_grow.Goals as goal

pub returns : goal.returns
returns c = run_grows
