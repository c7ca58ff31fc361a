use Rattle.fed_theory.proofs.ViewLaws.{view_union}
use Rattle.fed_theory.proofs.set_laws.kin_sets_join.Goals as goal

pub returns : goal.returns
returns c = view_union
