use Rattle.fed_theory.proofs.ViewLaws.{view_same}
use Rattle.fed_theory.proofs.set_laws.members_alone_are_read.Goals as goal

pub returns : goal.returns
returns c = view_same
