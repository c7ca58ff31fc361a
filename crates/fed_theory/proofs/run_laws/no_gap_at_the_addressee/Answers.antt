use Rattle.fed_theory.proofs.Promises.{addressee_takes}
use Rattle.fed_theory.proofs.run_laws.no_gap_at_the_addressee.Goals as goal

pub returns : goal.returns
returns c = addressee_takes
