use Rattle.fed_stamp.proofs.VersionLaws.{covered_counter_le_greatest}
use Rattle.fed_stamp.proofs.laws.seen_counters_are_up_to_the_greatest.Goals as goal

pub returns : goal.returns
returns c = covered_counter_le_greatest
