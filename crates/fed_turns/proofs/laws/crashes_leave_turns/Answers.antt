use Rattle.std.proofs.Common.{length, ◌∙◌}
use Rattle.fed_model.specs.Run.{start}
use Rattle.fed_turns.specs.Crash.{turns_from}
use Rattle.fed_turns.specs.Turn.{beginning}
use Rattle.fed_turns.proofs.Alarms.{start_stands}
use Rattle.fed_turns.proofs.Crashes.{all_may, opened_holds, opened_knows}
use Rattle.fed_turns.proofs.Reached.{start_reached}
use Rattle.fed_turns.proofs.Turns.{turns_played}
use Rattle.fed_turns.proofs.laws.crashes_leave_turns.Goals as goal

pub returns-clause-turns : goal.returns-clause-turns
returns-clause-turns c whole rosters happenings may = all_may whole happenings (beginning rosters) may

pub returns-clause-known : goal.returns-clause-known
returns-clause-known c rosters happenings i = opened_knows i rosters happenings

pub returns-clause-held : goal.returns-clause-held
returns-clause-held c rosters happenings i = opened_holds i rosters happenings

pub returns-clause-opened : goal.returns-clause-opened
returns-clause-opened c whole rosters happenings i lawful may =
    opened_holds i rosters happenings
    ∙ (turns_played whole lawful.at_most (turns_from (beginning rosters) happenings) (beginning rosters) start (start_stands rosters) (start_reached (length whole)) (all_may whole happenings (beginning rosters) may)).stands.sites i
