use Rattle.std.specs.Prelude.{Result, Ok, Err, OnErr}
use Rattle.std.proofs.Common.{◌<◌, arith}
use Rattle.fed_world.proofs.KeptLaws.{command_done, memory_done}
use Rattle.fed_world.proofs.steps.act_at.Goals as goal

pub returns-clause-done : goal.returns-clause-done
returns-clause-done c = λ n events few held.
    let small : c.get-index.result < n = omega (arith, held.count) in
    command_done n events few c.args.replicas.now held c.args.site c.get-index.result c.get-index.ensures.same c.args.who.now c.args.command.now small _ c.answer.new.self (held.each c.get-index.result c.index-replicas-index.result small)
    c.answer.ensures.site c.answer.ensures.heard c.in_ok-answered.answered.said c.in_ok-answered.ensures.said c.in_ok-answered.ensures.left c.outcome.result c.outcome.ensures

any_error : {T E : Type 0} (r : Result T E) (P : Type 0) → P → OnErr r P
any_error (Ok x) P p = tt
any_error (Err e) P p = p

pub returns-in_err-answered-clause-memory : goal.returns-in_err-answered-clause-memory
returns-in_err-answered-clause-memory c = any_error c.from_residual.result _ (λ n events few held.
    let small : c.get-index.result < n = omega (arith, held.count) in
    memory_done n events few c.args.replicas.now held c.args.site c.get-index.result c.get-index.ensures.same c.args.who.now c.args.command.now small _ c.answer.new.self (held.each c.get-index.result c.index-replicas-index.result small)
    c.answer.ensures.site c.answer.ensures.heard c.in_err-answered.ensures.memory)
