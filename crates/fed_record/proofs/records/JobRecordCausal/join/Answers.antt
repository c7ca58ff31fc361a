use Rattle.fed_record.proofs.CoveredLaws.{covered_joined, covered_same}
use Rattle.fed_record.specs.RecordLaws.{hold_order, hold_exact, site_order, site_exact}
use Rattle.fed_record.proofs.records.JobRecordCausal.join.Goals as goal

pub invariant_of-result : goal.invariant_of-result
invariant_of-result c = (
  covered_same c.join-3.ensures c.in_ok-join.ensures.joined (covered_joined _ hold_order hold_exact _ _ _ _ _ _ c.self.invariant.0 c.other.invariant.0),
  covered_same c.join-3.ensures c.in_ok-join-2.ensures.joined (covered_joined _ site_order site_exact _ _ _ _ _ _ c.self.invariant.1 c.other.invariant.1),
)

pub returns-clause-well_formed : goal.returns-clause-well_formed
returns-clause-well_formed c =
    let fields = c.join_inline.ensures.well_formed in
    let holds = c.in_ok-join.ensures.well_formed in
    let sites = c.in_ok-join-2.ensures.well_formed in
    let stages = c.join_inline-2.ensures.well_formed in
    rw (← c.self.view_is, ← c.other.view_is) ((fields.0, stages.0, holds.0, sites.0), (fields.1, stages.1, holds.1, sites.1))

pub returns-clause-joined : goal.returns-clause-joined
returns-clause-joined c = rw (← c.self.view_is, ← c.other.view_is) (λ i. record {
  fields = c.join_inline.ensures.joined i;
  holds = c.in_ok-join.ensures.joined i;
  sites = c.in_ok-join-2.ensures.joined i;
  stages = c.join_inline-2.ensures.joined i;
  touched = c.join-3.ensures i;
})
