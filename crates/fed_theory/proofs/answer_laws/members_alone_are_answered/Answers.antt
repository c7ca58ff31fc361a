use Rattle.std.proofs.Common.{ap}
use Rattle.fed_model.specs.View.{View}
use Rattle.fed_theory.proofs.ViewLaws.{view_same}
use Rattle.fed_model.specs.Answer.{answer_to}
use Rattle.fed_theory.proofs.answer_laws.members_alone_are_answered.Goals as goal

pub returns : goal.returns
returns c ops others here who command one same = ap (λ (v : View). answer_to v here who command) (view_same ops others one same)
