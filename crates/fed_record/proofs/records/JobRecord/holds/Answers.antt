use Rattle.std.proofs.Common.{◌∙◌}
use Rattle.fed_model.specs.declared.holds.HoldKind.TheVariants.{User, Operator, System}
use Rattle.fed_record.proofs.records.JobRecord.holds.Goals as goal

-- each kind is in the set exactly where a hold of it is present
pub returns-clause-kinds : goal.returns-clause-kinds
returns-clause-kinds c User = c.made_of.ensures.user ∙ c.has_hold.ensures
returns-clause-kinds c Operator = c.made_of.ensures.operator ∙ c.has_hold-2.ensures
returns-clause-kinds c System = c.made_of.ensures.system ∙ c.has_hold-3.ensures
