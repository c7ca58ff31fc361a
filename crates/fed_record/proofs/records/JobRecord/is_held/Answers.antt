use Rattle.fed_record.proofs.PresentPairs.{held_answer}
use Rattle.fed_record.proofs.records.JobRecord.is_held.Goals as goal

pub returns : goal.returns
returns c = rw (← c.self.view_is) (held_answer _ _ _ c.self.invariant.0 c.is_empty.ensures)
