use Rattle.std.proofs.Common.{arith}
use Rattle.fed_ranges.proofs.RangeCounts.{counted_ranges, end_same}
use Rattle.fed_ranges.proofs.laws.ranges_are_counted_by_their_starts.Goals as goal

pub returns : goal.returns
returns c rs most apart ends = counted_ranges rs most 0 apart (end_same rs most _ (omega arith) ends)
