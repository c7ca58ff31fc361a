use Rattle.std.proofs.lemmas.List.{drop_all}
use Rattle.fed_tags.specs.Tags.{pair_cmp}
use Rattle.fed_tags.proofs.TagLoops.{removed_more, removed_all}
use Rattle.fed_tags.proofs.sets.TagSet.remove.Goals as goal
use Rattle.fed_lattice.proofs.EntryLoops.{drop_item}

pub loop-element-preserved : goal.loop-element-preserved
loop-element-preserved g c =
    removed_more (pair_cmp g.T.Ord.cmp) _ _ _ _ _ _ c.loop-element.invariant (drop_item _ _ _ c.loop-element-test.true c.loop-element-item.is) c.remove_one.ensures

pub returns : goal.returns
returns g c = removed_all (pair_cmp g.T.Ord.cmp) _ _ _ c.loop-element.invariant (drop_all _ _ c.loop-element-test.false)
