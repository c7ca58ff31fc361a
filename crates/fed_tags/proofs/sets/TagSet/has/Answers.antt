use Rattle.std.proofs.Common.{◌∙◌}
use Rattle.fed_tags.proofs.GroupLaws.{has_element}
use Rattle.fed_tags.proofs.Places.{is_found}
use Rattle.fed_tags.proofs.sets.TagSet.has.Goals as goal

pub returns : goal.returns
returns g c =
    has_element g.T.Ord.cmp g.met.T.Ord.total g.met.T.Exact.exact _ _ c.args.element.now _ c.self.view_is c.self.invariant
    (c.is_ok.ensures.value ∙ is_found g.T.Ord.cmp g.met.T.Ord.total g.met.T.Exact.exact _ _ c.deref.ensures.value c.args.element.now c.self.invariant.0 c.find.result c.find.ensures.found c.find.ensures.absent)
