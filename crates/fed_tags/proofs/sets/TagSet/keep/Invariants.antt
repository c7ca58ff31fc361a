use Rattle.std.proofs.Common.{◌≡◌}
use Rattle.fed_tags.specs.Tags.{pair_cmp, inserted, kept}
use Rattle.fed_tags.proofs.sets.TagSet.keep.Given as goal

abbrev pub invariant-loop-element : goal.invariant-loop-element
invariant-loop-element g l = inserted (pair_cmp g.T.Ord.cmp) l.self (kept (pair_cmp g.T.Ord.cmp) l.other l.theirs l.element-iterator) ≡ inserted (pair_cmp g.T.Ord.cmp) l.initial.self (kept (pair_cmp g.T.Ord.cmp) l.other l.theirs l.side)
