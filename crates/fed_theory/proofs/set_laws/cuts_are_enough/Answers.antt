use Rattle.fed_theory.proofs.CutLaws.{cut_joins}
use Rattle.fed_theory.proofs.set_laws.cuts_are_enough.Goals as goal

pub returns : goal.returns
returns c ops others need kin below = cut_joins ops others kin need below
