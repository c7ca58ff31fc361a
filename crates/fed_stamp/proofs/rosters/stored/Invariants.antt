use Rattle.fed_stamp.specs.Roster.{sites_of}
use Rattle.fed_stamp.proofs.RosterLemmas.{IsFilledTo}
use Rattle.fed_stamp.proofs.rosters.stored.Given as goal

abbrev pub invariant-loop-i : goal.invariant-loop-i
invariant-loop-i l = IsFilledTo (sites_of l.sites) l.stored l.i
