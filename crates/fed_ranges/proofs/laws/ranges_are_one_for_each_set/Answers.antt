use Rattle.fed_ranges.specs.RangeLaws.{one_list}
use Rattle.fed_ranges.proofs.laws.ranges_are_one_for_each_set.Goals as goal

pub returns : goal.returns
returns c rs ss a b same = one_list 0 rs ss a b same
