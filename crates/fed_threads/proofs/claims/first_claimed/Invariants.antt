use Rattle.std.proofs.Common.{◌<◌, ℕ}
use Rattle.fed_threads.specs.Claimants.{rows_of, IsNotThere}
use Rattle.fed_threads.proofs.claims.first_claimed.Given as goal

abbrev pub invariant-loop-site : goal.invariant-loop-site
invariant-loop-site l = (a b : ℕ) → a < l.site → IsNotThere l.times (rows_of l.rows) a b
