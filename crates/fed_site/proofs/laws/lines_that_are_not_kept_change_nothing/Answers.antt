use Rattle.fed_site.proofs.Replays.{still_roster, unkept}
use Rattle.fed_site.proofs.laws.lines_that_are_not_kept_change_nothing.Goals as goal

pub returns-clause-state : goal.returns-clause-state
returns-clause-state c = unkept

pub returns-clause-roster : goal.returns-clause-roster
returns-clause-roster c = still_roster
