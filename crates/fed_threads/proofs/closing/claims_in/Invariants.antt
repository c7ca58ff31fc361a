use Rattle.std.proofs.Common.{◌≡◌}
use Rattle.fed_threads.specs.Placing.{claims_of}
use Rattle.fed_threads.specs.Settle.{claims_in}
use Rattle.fed_threads.proofs.closing.claims_in.Given as goal

abbrev pub invariant-loop-seat : goal.invariant-loop-seat
invariant-loop-seat l = claims_of l.claims.items ≡ claims_in l.yielded
