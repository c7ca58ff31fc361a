use Rattle.std.proofs.Common.{◌≡◌, true, subst, ap, ◌∙◌}
use Rattle.fed_stamp.specs.Version.{covers, raised}
use Rattle.fed_record.specs.Changes.{hold_change, site_change}
use Rattle.fed_record.specs.Record.{IsCoveredStamp}
use Rattle.fed_record.proofs.CoveredLaws.{covered_applied, covered_same}
use Rattle.fed_theory.specs.JobSteps.{changed_fields, changed_stages}
use Rattle.fed_record.specs.RecordLaws.{hold_order, hold_exact, site_order, site_exact}
use Rattle.fed_record.proofs.records.JobRecordCausal.apply.Goals as goal

pub invariant_of-self-2 : goal.invariant_of-self-2
invariant_of-self-2 c =
    let own : IsCoveredStamp (raised c.self.inside.touched c.args.at) c.args.at =
    (c.raise.ensures.site, subst (λ v. covers v c.args.at ≡ true) c.raise.ensures.raised c.raise.ensures.seen) in (
      covered_same c.raise.ensures.raised c.in_ok-change_tags.ensures.holds
          (covered_applied _ hold_order hold_exact _ _ _ (hold_change c.args.change.now) own c.self.invariant.0),
      covered_same c.raise.ensures.raised c.in_ok-change_tags.ensures.sites
          (covered_applied _ site_order site_exact _ _ _ (site_change c.args.change.now) own c.self.invariant.1),
    )

pub returns-clause-applied : goal.returns-clause-applied
returns-clause-applied c =
    let fields = c.apply_inline.ensures ∙ ap (changed_fields c.self.inside.fields c.args.at) c.field_changes.ensures in
    let stages = c.apply_inline-2.ensures ∙ ap (changed_stages c.self.inside.stages c.args.at) c.stage_changes.ensures in
    rw (← c.self.view_is) (λ i. record {
      fields = fields i;
      holds = c.in_ok-change_tags.ensures.holds i;
      sites = c.in_ok-change_tags.ensures.sites i;
      stages = stages i;
      touched = c.raise.ensures.raised i;
    })
