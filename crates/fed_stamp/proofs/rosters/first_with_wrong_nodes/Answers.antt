use Rattle.std.proofs.Common.{not, ◌∙◌, ap, arith, below_more}
use Rattle.fed_stamp.proofs.LeastIndex.{least_index_found, least_index_none}
use Rattle.fed_stamp.proofs.RosterLemmas.{length_sites, wrong_nodes_from_test}
use Rattle.fed_stamp.proofs.rosters.first_with_wrong_nodes.Goals as goal

pub returns-then-not-is_node_count : goal.returns-then-not-is_node_count
returns-then-not-is_node_count c = least_index_found _ _ _ (omega (arith, length_sites)) (wrong_nodes_from_test _ _ _ c.loop-i-test.true _ c.is_node_count.ensures ∙ ap not c.if-not-is_node_count.true) c.loop-i.invariant

pub loop-i-preserved : goal.loop-i-preserved
loop-i-preserved c = below_more _ _ c.loop-i.invariant (wrong_nodes_from_test _ _ _ c.loop-i-test.true _ c.is_node_count.ensures ∙ ap not c.if-not-is_node_count.false)

pub returns : goal.returns
returns c = least_index_none _ _ (λ k h. c.loop-i.invariant k (omega (arith, length_sites)))
