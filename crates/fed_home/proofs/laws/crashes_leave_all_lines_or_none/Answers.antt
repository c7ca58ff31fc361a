use Rattle.fed_home.proofs.Replays.{left_replayed}
use Rattle.fed_home.proofs.laws.crashes_leave_all_lines_or_none.Goals as goal

pub returns : goal.returns
returns c = left_replayed
