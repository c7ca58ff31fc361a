use Rattle.std.specs.Cmp.{nat_cmp_total}
use Rattle.std.specs.Ordering.{nat_cmp}
use Rattle.std.proofs.lemmas.Map.Lookups.{exact_unsigned}
use Rattle.fed_record.proofs.PresentPairs.{present_is}
use Rattle.fed_record.proofs.records.JobRecord.sites.Goals as goal

-- a site is among the keys exactly where a pair of it is kept
pub returns-clause-members : goal.returns-clause-members
returns-clause-members c = rw (← c.self.view_is) (λ site.
    let kept = c.elements.ensures.members site in
    let present = present_is nat_cmp nat_cmp_total exact_unsigned _ _ c.self.invariant.1 site in
    (λ h. present.1 (kept.0 h), λ t. kept.1 (present.0 t)))
