use Rattle.fed_stamp.proofs.VersionLaws.{met_below_left, met_below_right, met_greatest}
use Rattle.fed_stamp.proofs.laws.meet_is_the_greatest_lower_bound.Goals as goal

pub returns-clause-below_left : goal.returns-clause-below_left
returns-clause-below_left c = met_below_left

pub returns-clause-below_right : goal.returns-clause-below_right
returns-clause-below_right c = met_below_right

pub returns-clause-greatest : goal.returns-clause-greatest
returns-clause-greatest c = met_greatest
