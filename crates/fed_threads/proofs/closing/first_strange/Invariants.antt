use Rattle.std.proofs.Common.{◌<◌, ℕ}
use Rattle.fed_threads.specs.Placing.{entries_of}
use Rattle.fed_threads.specs.Settle.{FitsThere}
use Rattle.fed_threads.proofs.closing.first_strange.Given as goal

abbrev pub invariant-loop-number : goal.invariant-loop-number
invariant-loop-number l = (a b : ℕ) → a < l.number → FitsThere (entries_of l.journals) l.seats a b
