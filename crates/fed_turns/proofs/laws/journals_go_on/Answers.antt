use Rattle.fed_turns.proofs.Crashes.{journal_cut, journal_more, lines_answered}
use Rattle.fed_turns.proofs.laws.journals_go_on.Goals as goal

pub returns-clause-added : goal.returns-clause-added
returns-clause-added c rosters happenings later i = journal_more i rosters happenings later

pub returns-clause-answered : goal.returns-clause-answered
returns-clause-answered c i turns here = lines_answered i turns here

pub returns-clause-crashed : goal.returns-clause-crashed
returns-clause-crashed c rosters happenings i lines entries = journal_cut i rosters happenings lines entries
