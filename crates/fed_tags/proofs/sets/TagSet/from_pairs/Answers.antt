use Rattle.std.proofs.Common.{◌∙◌}
use Rattle.std.proofs.lemmas.List.{drop_all}
use Rattle.fed_tags.specs.Tags.{pair_cmp}
use Rattle.fed_tags.specs.TagLaws.{pair_total, exact_pair}
use Rattle.fed_tags.proofs.TagLoops.{inserted_more, inserted_all, inserted_none}
use Rattle.fed_tags.proofs.sets.TagSet.from_pairs.Goals as goal
use Rattle.fed_lattice.proofs.EntryLoops.{drop_item}

pub loop-element-preserved : goal.loop-element-preserved
loop-element-preserved g c =
    inserted_more (pair_cmp g.T.Ord.cmp) _ _ _ _ _ _ c.loop-element.invariant (drop_item _ _ _ c.loop-element-test.true c.loop-element-item.is) c.in_ok-insert.ensures.ok

pub returns : goal.returns
returns g c =
    inserted_all (pair_cmp g.T.Ord.cmp) _ _ _ c.loop-element.invariant (drop_all _ _ c.loop-element-test.false)
    ∙ inserted_none (pair_cmp g.T.Ord.cmp) (pair_total g.T.Ord.cmp g.met.T.Ord.total) (exact_pair g.T.Ord.cmp g.met.T.Exact.exact) c.args.pairs.now c.requires
