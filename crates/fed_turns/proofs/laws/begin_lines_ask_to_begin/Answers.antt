use Rattle.fed_turns.proofs.BeginLines.{begin_asks}
use Rattle.fed_turns.proofs.laws.begin_lines_ask_to_begin.Goals as goal

pub returns : goal.returns
returns c roster here line id when job at words is m = begin_asks line id when words roster here job at is m
