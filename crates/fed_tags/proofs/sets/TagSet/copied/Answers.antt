use Rattle.fed_tags.proofs.GroupLaws.{sorted_view}
use Rattle.fed_tags.proofs.sets.TagSet.copied.Goals as goal

pub returns-clause-ascending : goal.returns-clause-ascending
returns-clause-ascending g c = sorted_view g.T.Ord.cmp g.met.T.Ord.total _ _ c.self.view_is c.self.invariant
