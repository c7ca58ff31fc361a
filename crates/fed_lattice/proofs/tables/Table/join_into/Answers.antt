use Rattle.std.proofs.Common.{sym, ◌∙◌}
use Rattle.std.proofs.lemmas.Map.Iter.{rest_more}
use Rattle.std.specs.Map.Iter.{deref}
use Rattle.fed_lattice.proofs.TableLoops.{filling_more, filling_skip}
use Rattle.fed_lattice.proofs.tables.Table.join_into.Goals as goal

pub loop-key-preserved-in_ok-insert-2 : goal.loop-key-preserved-in_ok-insert-2
loop-key-preserved-in_ok-insert-2 g c =
    filling_more g.K.Ord.cmp g.met.K.Ord.total g.met.K.Exact.exact _ _ _ _ _ _ _ _ c.loop-key.invariant
    (rest_more deref _ _ _ _ c.in-Some.is c.next.ensures.steps)
    c.in_ok-join_at.ensures c.in_ok-insert.ensures.entries

pub loop-key-preserved : goal.loop-key-preserved
loop-key-preserved g c =
    filling_skip g.K.Ord.cmp g.met.K.Ord.total g.met.K.Exact.exact _ _ _ _ _ _ c.loop-key.invariant
    (rest_more deref _ _ _ _ c.in-Some.is c.next.ensures.steps)
    (sym c.contains_key.ensures ∙ c.if-not-contains_key.false)
