use Rattle.std.proofs.lemmas.Result.{on_err_weaker}
use Rattle.fed_theory.proofs.Allowed.{clear}
use Rattle.fed_theory.proofs.NextStamps.{next_is, next_uncovered}
use Rattle.fed_replica.proofs.StepLaws.{sources, step_answer, wants_memory}
use Rattle.fed_replica.proofs.Unrefused.{named}
use Rattle.fed_replica.proofs.WantOfMemory.{never_memory}
use Rattle.fed_replica.proofs.replicas.Replica.answer.Goals as goal

pub apply-requires-clause-fresh : goal.apply-requires-clause-fresh
apply-requires-clause-fresh c =
    let step = rw c.in-Adds.is at c.in-Ok.ensures in
    let of = sources _ _ _ _ _ _ (step_answer _ _ _ _ _ step) in
    next_uncovered _ _ _ (next_is _ c.self.inside.site _ of.2)

pub apply-requires-clause-named : goal.apply-requires-clause-named
apply-requires-clause-named c =
    let step = rw c.in-Adds.is at c.in-Ok.ensures in
    let of = sources _ _ _ _ _ _ (step_answer _ _ _ _ _ step) in
    named c.self.inside.board c.self.inside.site c.args.who.now c.args.command.now _ _ (clear _ of.0) of.2 of.1

pub returns-in-Err-clause-memory : goal.returns-in-Err-clause-memory
returns-in-Err-clause-memory c =
    rw (← c.self.view_is)
    (on_err_weaker c.refused.result (λ full. wants_memory _ c.args.command.now c.in-Err.refusal c.in-Err.ensures full (never_memory _ _ _ _)) c.refused.ensures.memory)
