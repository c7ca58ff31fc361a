use Rattle.fed_tags.proofs.Equality.{stamps_decide, test_decides, entries_decide, sets_decide, by_pairs}
use Rattle.fed_tags.proofs.sets.TagSetPartialEq.eq.Goals as goal

pub returns-clause-by_pairs : goal.returns-clause-by_pairs
returns-clause-by_pairs g c =
    by_pairs g.T.Ord.cmp g.met.T.Ord.total g.met.T.Exact.exact c.args.self.now c.args.other.now c.eq.result
    (sets_decide g.T.Ord.cmp g.met.T.Ord.total g.met.T.Exact.exact _ _ c.args.self.now c.args.other.now c.eq.result c.self.invariant c.other.invariant c.self.view_is c.other.view_is
    (entries_decide (test_decides g.T.Ord.cmp g.met.T.Ord.total g.met.T.Exact.exact g.T.PartialEq.eq g.met.T.Ord.matches_eq) stamps_decide _ _ c.eq.result c.eq.ensures))

pub returns-clause-same : goal.returns-clause-same
returns-clause-same g c =
    sets_decide g.T.Ord.cmp g.met.T.Ord.total g.met.T.Exact.exact _ _ c.args.self.now c.args.other.now c.eq.result c.self.invariant c.other.invariant c.self.view_is c.other.view_is
    (entries_decide (test_decides g.T.Ord.cmp g.met.T.Ord.total g.met.T.Exact.exact g.T.PartialEq.eq g.met.T.Ord.matches_eq) stamps_decide _ _ c.eq.result c.eq.ensures)
