use Rattle.std.proofs.Common.{◌≡◌, drop}
use Rattle.std.specs.List.Sorted.{IsStrictlySortedBy}
use Rattle.fed_tags.specs.Tags.{pair_cmp, stamped, inserted}
use Rattle.fed_tags.proofs.sets.TagSet.add.Given as goal

abbrev pub invariant-loop-element : goal.invariant-loop-element
invariant-loop-element g l = record {
  left : inserted (pair_cmp g.T.Ord.cmp) l.self (stamped l.at (drop l.element-index l.element-items)) ≡ inserted (pair_cmp g.T.Ord.cmp) l.initial.self (stamped l.at l.element-items);
  ascending : IsStrictlySortedBy (pair_cmp g.T.Ord.cmp) l.self;
}
