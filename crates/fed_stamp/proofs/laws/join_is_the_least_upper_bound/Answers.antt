use Rattle.fed_stamp.proofs.VersionLaws.{below_joined_left, below_joined_right, joined_least}
use Rattle.fed_stamp.proofs.laws.join_is_the_least_upper_bound.Goals as goal

pub returns-clause-above_left : goal.returns-clause-above_left
returns-clause-above_left c = below_joined_left

pub returns-clause-above_right : goal.returns-clause-above_right
returns-clause-above_right c = below_joined_right

pub returns-clause-least : goal.returns-clause-least
returns-clause-least c = joined_least
