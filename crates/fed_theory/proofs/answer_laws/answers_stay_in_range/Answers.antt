use Rattle.fed_theory.proofs.Ranged.{answer_ranged}
use Rattle.fed_theory.proofs.answer_laws.answers_stay_in_range.Goals as goal

pub returns : goal.returns
returns c = λ ops here who command reply new l ranged t e. answer_ranged ops l ranged here who command t reply new e
