use Rattle.std.proofs.Common.{◌≡◌, ◌<◌, ℕ, false}
use Rattle.fed_threads.specs.Placing.{entries_of, claims_of, is_ready}
use Rattle.fed_threads.proofs.placing.least_next.Given as goal

abbrev pub invariant-loop-site : goal.invariant-loop-site
invariant-loop-site l = (s : ℕ) → s < l.site → is_ready (entries_of l.journals) (claims_of l.seats) l.placed s ≡ false
