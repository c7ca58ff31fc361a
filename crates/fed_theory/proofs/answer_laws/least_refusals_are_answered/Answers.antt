use Rattle.fed_theory.proofs.LeastRefusals.{least_answered, applies_refused}
use Rattle.fed_theory.proofs.answer_laws.least_refusals_are_answered.Goals as goal

pub returns-clause-refused : goal.returns-clause-refused
returns-clause-refused c v here who command x h t = applies_refused v here who command x h t

pub returns-clause-least : goal.returns-clause-least
returns-clause-least c v here who command refusal x e h t = least_answered v here who command refusal x e h t
