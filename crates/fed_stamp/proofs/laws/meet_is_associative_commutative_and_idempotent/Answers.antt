use Rattle.fed_stamp.proofs.VersionLaws.{met-assoc, met-comm, met-itself}
use Rattle.fed_stamp.proofs.laws.meet_is_associative_commutative_and_idempotent.Goals as goal

pub returns-clause-associative : goal.returns-clause-associative
returns-clause-associative c = met-assoc

pub returns-clause-commutative : goal.returns-clause-commutative
returns-clause-commutative c = met-comm

pub returns-clause-idempotent : goal.returns-clause-idempotent
returns-clause-idempotent c = met-itself
