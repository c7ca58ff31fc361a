use Rattle.fed_theory.proofs.Promises.{by_holder}
use Rattle.fed_theory.proofs.run_laws.begun_by_the_holder.Goals as goal

pub returns : goal.returns
returns c n events few = by_holder n events few
