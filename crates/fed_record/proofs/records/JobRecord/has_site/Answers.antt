use Rattle.std.specs.Cmp.{nat_cmp_total}
use Rattle.std.specs.Ordering.{nat_cmp}
use Rattle.std.proofs.lemmas.Map.Lookups.{exact_unsigned}
use Rattle.fed_record.proofs.PresentPairs.{present_answer}
use Rattle.fed_record.proofs.records.JobRecord.has_site.Goals as goal

pub returns : goal.returns
returns c = rw (← c.self.view_is) (present_answer nat_cmp nat_cmp_total exact_unsigned _ _ _ c.self.invariant.1 _ c.has.ensures)
