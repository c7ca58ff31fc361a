use Rattle.std.proofs.Common.{take}
use Rattle.fed_threads.specs.Placing.{entries_of}
use Rattle.fed_threads.proofs.Courses.{HasRun}
use Rattle.fed_threads.proofs.settling.run_order.Given as goal

abbrev pub invariant-loop-k : goal.invariant-loop-k
invariant-loop-k l = HasRun (entries_of l.journals) (take l.k l.sites) l.course
