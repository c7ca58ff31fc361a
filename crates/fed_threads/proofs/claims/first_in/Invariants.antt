use Rattle.std.proofs.Common.{◌<◌, ℕ}
use Rattle.std.specs.List.{slice_get}
use Rattle.fed_threads.specs.Claimants.{IsNot}
use Rattle.fed_threads.proofs.claims.first_in.Given as goal

abbrev pub invariant-loop-index : goal.invariant-loop-index
invariant-loop-index l = (b : ℕ) → b < l.index → IsNot l.times (slice_get l.row b)
