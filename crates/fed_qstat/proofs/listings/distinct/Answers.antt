use Rattle.std.proofs.Common.{subst}
use Rattle.std.specs.List.Sorted.{IsPermutation}
use Rattle.fed_qstat.proofs.DistinctIdentifiers.{once_ascends, once_members}
use Rattle.fed_qstat.proofs.listings.distinct.Goals as goal

pub returns-clause-ascending : goal.returns-clause-ascending
returns-clause-ascending c = once_ascends _ _ _ c.sort.ensures.permutation c.dedup.ensures.filtered c.in_ok-sort.ensures.sorted

pub returns-clause-members : goal.returns-clause-members
returns-clause-members c = once_members _ _ _ (subst (λ l. IsPermutation l c.sort.new.self.items) c.in_ok-distinct.ensures.items c.sort.ensures.permutation) c.dedup.ensures.filtered
