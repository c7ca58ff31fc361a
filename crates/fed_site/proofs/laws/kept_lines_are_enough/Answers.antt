use Rattle.fed_site.proofs.Replays.{kept_again, replayed, replayed_roster}
use Rattle.fed_site.proofs.laws.kept_lines_are_enough.Goals as goal

pub returns-clause-roster : goal.returns-clause-roster
returns-clause-roster c = replayed_roster

pub returns-clause-state : goal.returns-clause-state
returns-clause-state c = replayed

pub returns-clause-again : goal.returns-clause-again
returns-clause-again c = kept_again
