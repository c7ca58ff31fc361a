use Rattle.std.proofs.Common.{ap, ◌∙◌}
use Rattle.std.specs.BTreeMap.{is_at}
use Rattle.std.specs.Map.{lookup}
use Rattle.fed_tags.proofs.GroupLaws.{holds, contains_pair}
use Rattle.fed_tags.proofs.sets.TagSet.contains.Goals as goal

pub returns-in-Some : goal.returns-in-Some
returns-in-Some g c =
    contains_pair g.T.Ord.cmp g.met.T.Ord.total g.met.T.Exact.exact _ _ (c.args.element.now, c.args.stamp) _ c.self.view_is c.self.invariant
    (c.contains.ensures ∙ ap (λ r. holds r c.args.stamp) (c.in-Some.ensures.value ∙ ap (lookup (is_at (g.T.Ord.cmp c.args.element.now))) c.deref.ensures.value))

pub returns-in-None : goal.returns-in-None
returns-in-None g c =
    contains_pair g.T.Ord.cmp g.met.T.Ord.total g.met.T.Exact.exact _ _ (c.args.element.now, c.args.stamp) _ c.self.view_is c.self.invariant
    (ap (λ r. holds r c.args.stamp) (c.in-None.ensures.value ∙ ap (lookup (is_at (g.T.Ord.cmp c.args.element.now))) c.deref.ensures.value))
