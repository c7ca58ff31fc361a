use Rattle.std.specs.Prelude.{Bool, true, false, Option, Some, None}
use Rattle.std.proofs.Common.{◌≡◌, sym}
use Rattle.fed_model.specs.declared.refusals.Refusal.{Refusal}
use Rattle.fed_model.specs.declared.decisions.Decision.{Decision}
use Rattle.fed_model.specs.Desk.{decision_unless}
use Rattle.fed_desk.proofs.desks.grant_refusal.Goals as goal

-- a decision that refuses does so by the first refusal that applies
first_refused : (first : Option Refusal) (is_yours : Bool) (refusal : Refusal) → decision_unless first is_yours ≡ Decision.Refused refusal → Some refusal ≡ first
first_refused (Some other) is_yours refusal e = cc
first_refused None true refusal e = cc
first_refused None false refusal e = cc

pub returns-in-Refused : goal.returns-in-Refused
returns-in-Refused c = first_refused _ _ _ (sym c.in-Refused.ensures)
