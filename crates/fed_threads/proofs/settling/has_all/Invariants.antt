use Rattle.std.proofs.Common.{◌≡◌, ◌<◌, ℕ, [], length, get_or}
use Rattle.fed_threads.specs.Placing.{entries_of}
use Rattle.fed_threads.proofs.settling.has_all.Given as goal

abbrev pub invariant-loop-site : goal.invariant-loop-site
invariant-loop-site l = (s : ℕ) → s < l.site → get_or l.placed s 0 ≡ length (get_or (entries_of l.journals) s [])
