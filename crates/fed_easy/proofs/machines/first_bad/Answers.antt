use Rattle.std.proofs.Common.{not, ◌∙◌, ap, arith, below_more, sym}
use Rattle.fed_stamp.proofs.LeastIndex.{least_index_found, least_index_none}
use Rattle.fed_easy.proofs.machines.first_bad.Goals as goal

pub returns-then-not-is_entry : goal.returns-then-not-is_entry
returns-then-not-is_entry c = least_index_found _ _ _ c.loop-i-test.true (ap not (sym c.is_entry.ensures ∙ c.if-not-is_entry.true)) c.loop-i.invariant

pub loop-i-preserved : goal.loop-i-preserved
loop-i-preserved c = below_more _ _ c.loop-i.invariant (ap not (sym c.is_entry.ensures ∙ c.if-not-is_entry.false))

pub returns : goal.returns
returns c = least_index_none _ _ (λ k h. c.loop-i.invariant k (omega arith))
