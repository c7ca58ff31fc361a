use Rattle.std.proofs.Common.{rules}
use Rattle.fed_threads.proofs.Claimants.{with_claim}
use Rattle.fed_threads.proofs.claims.add_claim.Goals as goal

pub returns-then-index-len : goal.returns-then-index-len
returns-then-index-len c seats claims count len h =
    with_claim c.args.row.now.items seats claims c.args.claim.now c.args.seat c.args.site count c.index.result.now c.more-times.result len
    (search rules) (search rules) (search rules) c.more-times.ensures h
