use Rattle.fed_desk.proofs.FirstCases.{applies_first, applies_not}
use Rattle.fed_desk.proofs.cases.first_refusal.Goals as goal

pub returns-then-applies : goal.returns-then-applies
returns-then-applies c =
    applies_first c.args.cases.now c.loop-applies.applies-index c.loop-applies-item.result c.loop-applies-test.true c.loop-applies-item.is c.loop-applies.invariant c.if-applies.true

pub loop-applies-preserved : goal.loop-applies-preserved
loop-applies-preserved c =
    applies_not c.args.cases.now c.loop-applies.applies-index c.loop-applies-item.result c.loop-applies-test.true c.loop-applies-item.is c.loop-applies.invariant c.if-applies.false
