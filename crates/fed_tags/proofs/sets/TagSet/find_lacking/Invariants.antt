use Rattle.std.proofs.Common.{◌≡◌, ◌++◌, drop}
use Rattle.fed_tags.specs.Tags.{pair_cmp, lacking}
use Rattle.fed_tags.proofs.sets.TagSet.find_lacking.Given as goal

abbrev pub invariant-loop-element : goal.invariant-loop-element
invariant-loop-element g l = l.found.items ++ lacking (pair_cmp g.T.Ord.cmp) l.self l.at (drop l.element-index l.elements) ≡ lacking (pair_cmp g.T.Ord.cmp) l.self l.at l.elements
