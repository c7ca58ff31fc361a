use Rattle.fed_turns.proofs.EntryLines.{entries_are_lines}
use Rattle.fed_turns.proofs.Homes.{home_entries}
use Rattle.fed_turns.proofs.Knowing.{entries_again}
use Rattle.fed_turns.proofs.laws.compacted_journals_are_read.Goals as goal

pub returns-clause-turns : goal.returns-clause-turns
returns-clause-turns c whole rosters turns i entries lawful may named own free are = entries_again whole lawful.at_most rosters turns i may named own free entries are

pub returns-clause-homes : goal.returns-clause-homes
returns-clause-homes c whole rosters i happenings file now entries lawful may home is are = home_entries i rosters happenings whole lawful.at_most file now entries may home is are

pub returns-clause-lines : goal.returns-clause-lines
returns-clause-lines c now entries named are = entries_are_lines now entries named are
