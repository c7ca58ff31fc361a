use Rattle.fed_stamp.proofs.VersionLaws.{covers-met}
use Rattle.fed_stamp.proofs.laws.meet_covers_what_both_cover.Goals as goal

pub returns : goal.returns
returns c = covers-met
