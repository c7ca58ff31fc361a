use Rattle.std.proofs.Common.{◌≡◌, drop}
use Rattle.fed_tags.specs.Tags.{pair_cmp, without}
use Rattle.fed_tags.proofs.sets.TagSet.remove.Given as goal

abbrev pub invariant-loop-element : goal.invariant-loop-element
invariant-loop-element g l = without (pair_cmp g.T.Ord.cmp) l.self (drop l.element-index l.pairs) ≡ without (pair_cmp g.T.Ord.cmp) l.initial.self l.pairs
