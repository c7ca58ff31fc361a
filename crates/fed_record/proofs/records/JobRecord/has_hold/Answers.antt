use Rattle.fed_model.specs.Hold.{kind_cmp}
use Rattle.fed_model.specs.HoldLaws.{kind_total, exact_kind}
use Rattle.fed_record.proofs.PresentPairs.{present_answer}
use Rattle.fed_record.proofs.records.JobRecord.has_hold.Goals as goal

pub returns : goal.returns
returns c = rw (← c.self.view_is) (present_answer kind_cmp kind_total exact_kind _ _ _ c.self.invariant.0 _ c.has.ensures)
