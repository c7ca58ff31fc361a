use Rattle.std.proofs.Common.{◌≡◌, drop}
use Rattle.fed_tags.specs.Tags.{pair_cmp, stamped, without}
use Rattle.fed_tags.proofs.sets.TagSet.remove_stamped.Given as goal

abbrev pub invariant-loop-element : goal.invariant-loop-element
invariant-loop-element g l = without (pair_cmp g.T.Ord.cmp) l.self (stamped l.at (drop l.element-index l.elements)) ≡ without (pair_cmp g.T.Ord.cmp) l.initial.self (stamped l.at l.elements)
