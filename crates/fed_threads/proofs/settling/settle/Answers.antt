use Rattle.fed_threads.proofs.CallFaults.{only_memory}
use Rattle.fed_threads.proofs.NoFaults.{no_fault}
use Rattle.fed_threads.proofs.settling.settle.Goals as goal

pub returns-in_err-world-clause-settled : goal.returns-in_err-world-clause-settled
returns-in_err-world-clause-settled c = λ events s.
    only_memory c.from_residual.result c.in_err-world.field-0.0 (no_fault _ _ events c.in_err-world.field-0.0 s c.in_err-world.ensures.err) c.from_residual.ensures.1
