use Rattle.fed_theory.proofs.ViewLaws.{view_push}
use Rattle.fed_theory.proofs.set_laws.additions_are_read.Goals as goal

pub returns : goal.returns
returns c = view_push
