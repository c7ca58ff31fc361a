use Rattle.std.proofs.Common.{take}
use Rattle.fed_threads.specs.Placing.{entries_of, claims_of}
use Rattle.fed_threads.specs.Claimants.{AreClaimants, rows_of}
use Rattle.fed_threads.proofs.claims.rows_of.Given as goal

abbrev pub invariant-loop-site : goal.invariant-loop-site
invariant-loop-site l = AreClaimants (take l.site (entries_of l.journals)) (claims_of l.seats) (rows_of l.rows.items)
