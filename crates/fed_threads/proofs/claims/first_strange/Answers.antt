use Rattle.fed_threads.specs.Claims.{HoldsIfAny}
use Rattle.fed_threads.specs.Placing.{entries_of}
use Rattle.fed_threads.proofs.Rows.{holds_more}
use Rattle.fed_threads.proofs.claims.first_strange.Goals as goal

pub loop-seat-preserved : goal.loop-seat-preserved
loop-seat-preserved c =
    holds_more (HoldsIfAny (entries_of c.args.journals.now)) c.args.seats.now c.loop-seat.seat c.index-seats-seat.result c.loop-seat-test.true c.index-seats-seat.is c.loop-seat.invariant
    (rw c.as_slice.ensures.value at c.in_default.ensures)
