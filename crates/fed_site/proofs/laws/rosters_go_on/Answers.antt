use Rattle.fed_stamp.specs.Roster.{IsRoster}
use Rattle.fed_site.proofs.RosterLines.{after_begins, after_still, begins_names, read_lawful}
use Rattle.fed_site.proofs.laws.rosters_go_on.Goals as goal

pub returns-clause-roster : goal.returns-clause-roster
returns-clause-roster c = λ roster line lawful. after_still IsRoster read_lawful roster line lawful

pub returns-clause-begins : goal.returns-clause-begins
returns-clause-begins c = after_begins

pub returns-clause-numbers : goal.returns-clause-numbers
returns-clause-numbers c = begins_names
