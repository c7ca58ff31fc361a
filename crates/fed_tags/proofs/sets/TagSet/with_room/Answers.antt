use Rattle.std.proofs.Common.{sym, subst, arith}
use Rattle.std.specs.List.Sorted.{IsStrictlySortedBy}
use Rattle.fed_lattice.specs.Table.{IsTable}
use Rattle.fed_tags.specs.Groups.{IsGroup}
use Rattle.fed_tags.proofs.sets.TagSet.with_room.Goals as goal

pub invariant_of-result : goal.invariant_of-result
unfolding IsStrictlySortedBy
invariant_of-result g c = subst (λ es. IsTable g.T.Ord.cmp IsGroup es) (sym c.in_ok-with_capacity.ensures.items) (tt, λ k d l. absurd (omega arith))
