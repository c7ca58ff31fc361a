use Rattle.fed_threads.proofs.Boards.{settled_boards}
use Rattle.fed_threads.proofs.laws.settled_boards_are_replays.Goals as goal

pub returns : goal.returns
returns c = settled_boards
