use Rattle.fed_ranges.specs.RangeLaws.{joined_apart, joined_has, joined_assoc, joined_comm, joined_itself}
use Rattle.fed_ranges.proofs.laws.joins_are_unions.Goals as goal

pub returns-clause-canonical : goal.returns-clause-canonical
returns-clause-canonical c rs ss a b = joined_apart rs ss 0 a b

pub returns-clause-union : goal.returns-clause-union
returns-clause-union c rs ss n a b = joined_has rs ss 0 n a b

pub returns-clause-assoc : goal.returns-clause-assoc
returns-clause-assoc c = joined_assoc

pub returns-clause-comm : goal.returns-clause-comm
returns-clause-comm c = joined_comm

pub returns-clause-itself : goal.returns-clause-itself
returns-clause-itself c = joined_itself
