use Rattle.fed_turns.proofs.BeginLines.{retire_asks}
use Rattle.fed_turns.proofs.laws.retire_lines_ask_to_retire.Goals as goal

pub returns : goal.returns
returns c roster here line from to job first last words f l at within = retire_asks line from to words roster here job first last f l at within
