use Rattle.std.proofs.Common.{◌≡◌, [], drop}
use Rattle.fed_tags.specs.Tags.{pair_cmp, inserted}
use Rattle.fed_tags.proofs.sets.TagSet.from_pairs.Given as goal

abbrev pub invariant-loop-element : goal.invariant-loop-element
invariant-loop-element g l = inserted (pair_cmp g.T.Ord.cmp) l.set (drop l.element-index l.pairs) ≡ inserted (pair_cmp g.T.Ord.cmp) [] l.pairs
