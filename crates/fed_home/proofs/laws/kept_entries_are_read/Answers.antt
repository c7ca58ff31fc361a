use Rattle.fed_home.proofs.Replays.{kept_are_read, replayed_more, unkept_are_not}
use Rattle.fed_home.proofs.laws.kept_entries_are_read.Goals as goal

pub returns-clause-again : goal.returns-clause-again
returns-clause-again c = kept_are_read

pub returns-clause-others : goal.returns-clause-others
returns-clause-others c = unkept_are_not

pub returns-clause-more : goal.returns-clause-more
returns-clause-more c = λ entries lines roster s e. replayed_more entries (record { roster = roster; state = s }) lines e
