use Rattle.fed_stamp.proofs.VersionLaws.{joined-assoc, joined-comm, joined-itself}
use Rattle.fed_stamp.proofs.laws.join_is_associative_commutative_and_idempotent.Goals as goal

pub returns-clause-associative : goal.returns-clause-associative
returns-clause-associative c = joined-assoc

pub returns-clause-commutative : goal.returns-clause-commutative
returns-clause-commutative c = joined-comm

pub returns-clause-idempotent : goal.returns-clause-idempotent
returns-clause-idempotent c = joined-itself
