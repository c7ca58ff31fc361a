use Rattle.std.proofs.Common.{◌∙◌, sym, ap, is_some, arith, below_more}
use Rattle.fed_stamp.proofs.LeastIndex.{some_below, least_index_none}
use Rattle.fed_stamp.proofs.RosterLemmas.{named_from_test}
use Rattle.fed_stamp.proofs.rosters.is_name_repeated.Goals as goal

pub returns-then-eq : goal.returns-then-eq
returns-then-eq c = sym (some_below _ _ _ c.loop-i-test.true (named_from_test _ _ _ _ _ (omega arith) c.requires c.eq.ensures ∙ c.if-eq.true))

pub loop-i-preserved : goal.loop-i-preserved
loop-i-preserved c = below_more _ _ c.loop-i.invariant (named_from_test _ _ _ _ _ (omega arith) c.requires c.eq.ensures ∙ c.if-eq.false)

pub returns : goal.returns
returns c = ap is_some (least_index_none _ _ (λ k h. c.loop-i.invariant k (omega arith)))
