use Rattle.fed_theory.proofs.KnownLaws.{known_retired}
use Rattle.fed_theory.proofs.set_laws.covered_retirements_are_known.Goals as goal

pub returns : goal.returns
returns c ops others job kin below e = known_retired ops others kin job below e
