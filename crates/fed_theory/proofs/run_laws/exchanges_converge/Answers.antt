use Rattle.fed_theory.proofs.Convergence.{same_members}
use Rattle.fed_theory.proofs.run_laws.exchanges_converge.Goals as goal

pub returns : goal.returns
returns c = same_members
