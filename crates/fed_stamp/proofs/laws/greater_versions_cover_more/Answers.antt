use Rattle.fed_stamp.proofs.VersionLaws.{covers_more}
use Rattle.fed_stamp.proofs.laws.greater_versions_cover_more.Goals as goal

pub returns : goal.returns
returns c = covers_more
