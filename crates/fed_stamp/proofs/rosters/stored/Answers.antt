use Rattle.std.proofs.Common.{arith}
use Rattle.fed_stamp.proofs.RosterLemmas.{length_sites, name_made, filled_more, filled_all}
use Rattle.fed_stamp.proofs.rosters.stored.Goals as goal
use Rattle.fed_stamp.proofs.rosters.stored.Goals.{in-Some, in_default}

pub loop-i-preserved : goal.loop-i-preserved
loop-i-preserved c =
    let made = name_made c.args.sites.now c.loop-i.i _ c.loop-i-test.true c.requires c.new.result c.new.ensures in
    elim c.match-new.branch [
      | in-Some w ↦ rw (w.stored-is) (filled_more c.args.sites.now c.loop-i.i _ c.loop-i-test.true _ _ (omega (arith, length_sites, c.requires.at_most)) (cc) c.loop-i.invariant)
      | in_default w ↦ absurd (cc)
    ]

pub returns : goal.returns
returns c = filled_all _ _ c.loop-i.i c.requires.at_most (omega (arith, length_sites)) (omega (arith, length_sites)) c.loop-i.invariant
