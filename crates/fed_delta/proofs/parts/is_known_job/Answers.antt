use Rattle.std.proofs.Common.{◌<◌, subst, sym, ◌∙◌}
use Rattle.fed_stamp.specs.declared.sites.TheConstants.{SITES}
use Rattle.fed_delta.proofs.PartLaws.{known_job}
use Rattle.fed_delta.proofs.parts.is_known_job.Goals as goal

pub returns : goal.returns
returns c =
    let version = c.args.version.now in
    let job = c.args.job.now in (
      λ stamps. known_job version c.touched-touched.result c.args.id job c.touched-touched.ensures
          (subst (λ n. n < SITES) c.site.ensures c.site_is_in_range.ensures)
          (sym c.covers.ensures ∙ c.if-not-covers.false) (sym c.le.ensures ∙ c.if-not-le.false) (sym c.is_submitted.ensures ∙ c.if-not-is_submitted.false)
          c.version_is_in_range.ensures c.tags_are_covered.ensures.holds c.tags_are_covered.ensures.sites
          (sym c.has_covered_stamps.ensures ∙ stamps),
      λ known. c.has_covered_stamps.ensures ∙ known.stamps.stamps,
    )
