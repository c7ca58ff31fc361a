use Rattle.std.proofs.Common.{arith}
use Rattle.fed_stamp.proofs.RosterLemmas.{length-sites_in_more}
use Rattle.fed_stamp.proofs.rosters.Roster.len.Goals as goal
use Rattle.fed_stamp.proofs.rosters.Roster.len.Goals.{then-is_some, else-is_some}

pub loop-site-preserved : goal.loop-site-preserved
loop-site-preserved c =
    let more = length-sites_in_more c.self.inside.sites c.loop-site.site-index c.site-item.result (omega arith) in
    elim c.if-is_some.branch [
      | then-is_some w ↦ let m = rw (← c.is_some.ensures, w.if-is_some.true) at more in record { bound = omega arith; counted = omega arith }
      | else-is_some w ↦ let m = rw (← c.is_some.ensures, w.if-is_some.false) at more in record { bound = omega arith; counted = omega arith }
    ]
