use Rattle.std.proofs.Common.{◌∙◌}
use Rattle.fed_lattice.specs.Latest.{stamp_cmp}
use Rattle.fed_lattice.specs.LatestLaws.{stamp_total}
use Rattle.fed_tags.proofs.StampLists.{any_found}
use Rattle.fed_tags.proofs.tags.Tags.contains.Goals as goal

pub returns : goal.returns
returns c = c.is_ok.ensures.value ∙ any_found stamp_cmp stamp_total _ _ c.args.stamp c.as_slice.ensures.same c.as_slice.ensures.ascending c.binary_search.result c.binary_search.ensures.bound c.binary_search.ensures.position
