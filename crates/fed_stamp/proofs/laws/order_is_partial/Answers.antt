use Rattle.fed_stamp.proofs.VersionLaws.{below_itself, below_trans, below_antisymm}
use Rattle.fed_stamp.proofs.laws.order_is_partial.Goals as goal

pub returns-clause-reflexive : goal.returns-clause-reflexive
returns-clause-reflexive c = below_itself

pub returns-clause-transitive : goal.returns-clause-transitive
returns-clause-transitive c = below_trans

pub returns-clause-antisymmetric : goal.returns-clause-antisymmetric
returns-clause-antisymmetric c = below_antisymm
