use Rattle.std.proofs.Common.{◌≡◌, drop}
use Rattle.fed_model.specs.Desk.{first_of}
use Rattle.fed_desk.proofs.cases.first_refusal.Given as goal

abbrev pub invariant-loop-applies : goal.invariant-loop-applies
invariant-loop-applies l = first_of (drop l.applies-index l.cases) ≡ first_of l.cases
