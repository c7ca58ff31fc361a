use Rattle.std.proofs.Common.{◌≡◌, vec_len, length}
use Rattle.fed_threads.proofs.closing.journals_in.Given as goal

abbrev pub invariant-loop-lock : goal.invariant-loop-lock
invariant-loop-lock l = vec_len l.journals ≡ length l.yielded
