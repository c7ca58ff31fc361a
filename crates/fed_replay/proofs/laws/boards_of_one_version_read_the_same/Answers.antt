use Rattle.fed_replay.proofs.EqualVersions.{compared_views}
use Rattle.fed_replay.proofs.laws.boards_of_one_version_read_the_same.Goals as goal

pub returns : goal.returns
returns c = compared_views
