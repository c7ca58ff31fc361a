use Rattle.fed_theory.proofs.Promises.{held_by_one}
use Rattle.fed_theory.proofs.run_laws.grants_are_held_by_one.Goals as goal

pub returns : goal.returns
returns c n events few = held_by_one n events few
