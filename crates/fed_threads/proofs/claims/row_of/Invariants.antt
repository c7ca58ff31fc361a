use Rattle.std.proofs.Common.{take}
use Rattle.fed_threads.specs.Placing.{claims_of}
use Rattle.fed_threads.specs.Claimants.{AreClaimantsOf}
use Rattle.fed_threads.proofs.claims.row_of.Given as goal

abbrev pub invariant-loop-seat : goal.invariant-loop-seat
invariant-loop-seat l = AreClaimantsOf (take l.seat (claims_of l.seats)) l.site l.count l.row.items
