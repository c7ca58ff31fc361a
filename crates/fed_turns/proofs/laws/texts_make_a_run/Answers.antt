use Rattle.std.proofs.Common.{length}
use Rattle.fed_model.specs.Run.{start}
use Rattle.fed_turns.specs.Turn.{beginning}
use Rattle.fed_turns.proofs.Alarms.{start_stands}
use Rattle.fed_turns.proofs.Reached.{start_reached}
use Rattle.fed_turns.proofs.Turns.{turns_played}
use Rattle.fed_turns.proofs.laws.texts_make_a_run.Goals as goal

pub returns-clause-states : goal.returns-clause-states
returns-clause-states c whole rosters turns lawful may =
    (turns_played whole lawful.at_most turns (beginning rosters) start (start_stands rosters) (start_reached (length whole)) may).stands

pub returns-clause-answers : goal.returns-clause-answers
returns-clause-answers c whole rosters turns lawful may =
    (turns_played whole lawful.at_most turns (beginning rosters) start (start_stands rosters) (start_reached (length whole)) may).answered

pub returns-clause-ranged : goal.returns-clause-ranged
returns-clause-ranged c whole rosters turns lawful may =
    (turns_played whole lawful.at_most turns (beginning rosters) start (start_stands rosters) (start_reached (length whole)) may).ranged
