use Rattle.std.proofs.Common.{◌<◌, ℕ, Some}
use Rattle.fed_threads.specs.Placing.{entries_of}
use Rattle.fed_threads.specs.Settle.{FitsAt}
use Rattle.fed_threads.proofs.closing.strange_in.Given as goal

abbrev pub invariant-loop-place : goal.invariant-loop-place
invariant-loop-place l = (b : ℕ) → b < l.place → FitsAt (entries_of l.journals) (Some l.seat) b
