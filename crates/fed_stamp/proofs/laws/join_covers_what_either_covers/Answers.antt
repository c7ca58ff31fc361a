use Rattle.fed_stamp.proofs.VersionLaws.{covers-joined}
use Rattle.fed_stamp.proofs.laws.join_covers_what_either_covers.Goals as goal

pub returns : goal.returns
returns c = covers-joined
