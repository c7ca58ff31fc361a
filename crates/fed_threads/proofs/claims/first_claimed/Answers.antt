use Rattle.fed_threads.specs.Claimants.{IsNot}
use Rattle.fed_threads.proofs.Rows.{holds_more}
use Rattle.fed_threads.proofs.claims.first_claimed.Goals as goal

pub loop-site-preserved : goal.loop-site-preserved
loop-site-preserved c =
    holds_more (IsNot c.args.times.now) c.args.rows.now c.loop-site.site c.index-rows-site.result c.loop-site-test.true c.index-rows-site.is c.loop-site.invariant
    (rw c.as_slice.ensures.value at c.in_default.ensures)
