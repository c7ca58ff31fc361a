use Rattle.fed_lattice.specs.VersionOf.{version_of}
use Rattle.fed_theory.proofs.NextStamps.{next_uncovered}
use Rattle.fed_theory.proofs.Allowed.{answer_allowed, answer_lawful}
use Rattle.fed_theory.proofs.answer_laws.answers_keep_sets_lawful.Goals as goal

pub returns-clause-next : goal.returns-clause-next
returns-clause-next c ops here who command reply new l e = (answer_allowed ops l here who command reply new e).0.next

pub returns-clause-uncovered : goal.returns-clause-uncovered
returns-clause-uncovered c ops here who command reply new l e = next_uncovered (version_of ops) here new.0 (answer_allowed ops l here who command reply new e).0

pub returns-clause-rests : goal.returns-clause-rests
returns-clause-rests c ops here who command reply new l e = let a = (answer_allowed ops l here who command reply new e).1 in (a.grounded, a.may)

pub returns-clause-lawful : goal.returns-clause-lawful
returns-clause-lawful c ops here who command reply new l small e = answer_lawful ops l here small who command reply new e
