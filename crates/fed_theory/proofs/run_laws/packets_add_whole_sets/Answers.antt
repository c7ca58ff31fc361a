use Rattle.fed_theory.proofs.Promises.{shipped_adds}
use Rattle.fed_theory.proofs.run_laws.packets_add_whole_sets.Goals as goal

pub returns : goal.returns
returns c = shipped_adds
