use Rattle.fed_tags.specs.Tags.{pair_cmp}
use Rattle.fed_tags.proofs.TagLoops.{AscendsBelow}
use Rattle.fed_tags.proofs.sets.TagSet.is_ascending.Given as goal

abbrev pub invariant-loop-i : goal.invariant-loop-i
invariant-loop-i g l = AscendsBelow (pair_cmp g.T.Ord.cmp) l.pairs l.i
