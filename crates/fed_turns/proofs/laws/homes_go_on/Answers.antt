use Rattle.std.specs.Prelude.{Some}
use Rattle.std.proofs.Common.{length, ap, sym, ◌∙◌}
use Rattle.fed_replica.specs.State.{State}
use Rattle.fed_model.specs.Run.{start}
use Rattle.fed_journal.specs.Journal.{entries_of}
use Rattle.fed_home.specs.Replay.{replay}
use Rattle.fed_turns.specs.Crash.{turns_from}
use Rattle.fed_turns.specs.Home.{course_of}
use Rattle.fed_turns.specs.Turn.{beginning}
use Rattle.fed_turns.proofs.Alarms.{start_stands}
use Rattle.fed_turns.proofs.Crashes.{all_may}
use Rattle.fed_turns.proofs.Homes.{home_answered, home_crashed, home_made, home_of_other}
use Rattle.fed_turns.proofs.Reached.{start_reached}
use Rattle.fed_turns.proofs.Turns.{turns_played}
use Rattle.fed_turns.proofs.laws.homes_go_on.Goals as goal

pub returns-clause-named : goal.returns-clause-named
returns-clause-named c rosters i happenings file h = (h.0, h.1)

pub returns-clause-made : goal.returns-clause-made
returns-clause-made c header file now e r = home_made header file now e r

pub returns-clause-opened : goal.returns-clause-opened
returns-clause-opened c whole rosters i happenings file lawful may h =
    let played = turns_played whole lawful.at_most (turns_from (beginning rosters) happenings) (beginning rosters) start (start_stands rosters) (start_reached (length whole)) (all_may whole happenings (beginning rosters) may) in
    h.2 ∙ ap (λ (s : State). Some (record { roster = (course_of rosters happenings).roster i; state = s })) (played.stands.sites i)

pub returns-clause-answered : goal.returns-clause-answered
returns-clause-answered c whole rosters i happenings old new now lines answers may h e replies added carried parts =
    home_answered i rosters happenings whole old new now lines answers may h e replies added carried parts

pub returns-clause-crashed : goal.returns-clause-crashed
returns-clause-crashed c whole rosters i happenings old file now lines may h e left carried parts =
    home_crashed i rosters happenings whole old file now lines may h e left carried parts

pub returns-clause-same : goal.returns-clause-same
returns-clause-same c rosters i happenings old new e h = (h.0, h.1, ap (λ r. replay (entries_of r)) e ∙ h.2)

pub returns-clause-compacted : goal.returns-clause-compacted
returns-clause-compacted c rosters i happenings old new now was is h = (h.0, h.1, is ∙ sym was ∙ h.2)

pub returns-clause-others : goal.returns-clause-others
returns-clause-others c rosters i happenings later file away h = home_of_other i rosters happenings later file away h
