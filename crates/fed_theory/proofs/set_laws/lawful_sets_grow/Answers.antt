use Rattle.fed_theory.proofs.GrowthLaws.{lawful_push}
use Rattle.fed_theory.proofs.set_laws.lawful_sets_grow.Goals as goal

pub returns : goal.returns
returns c ops e l fresh small rests may = lawful_push ops e l fresh rests may small
