use Rattle.fed_turns.proofs.Alarms.{all_known, no_alarm}
use Rattle.fed_turns.proofs.laws.no_false_alarms.Goals as goal

pub returns-clause-alarms : goal.returns-clause-alarms
returns-clause-alarms c whole rosters turns i line text lawful may is was = no_alarm whole lawful.at_most rosters turns may text was i line is

pub returns-clause-known : goal.returns-clause-known
returns-clause-known c whole rosters turns i text packet lawful may was is all = all_known whole lawful.at_most rosters turns may text was i packet is all
