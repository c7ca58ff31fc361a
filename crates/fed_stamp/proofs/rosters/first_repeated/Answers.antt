use Rattle.std.proofs.Common.{◌∙◌, sym, arith}
use Rattle.fed_stamp.proofs.LeastIndex.{least_index_found, least_index_none}
use Rattle.fed_stamp.proofs.RosterLemmas.{length_sites}
use Rattle.fed_stamp.proofs.rosters.first_repeated.Goals as goal

pub returns-then-is_name_repeated : goal.returns-then-is_name_repeated
returns-then-is_name_repeated c = least_index_found _ _ _ (omega (arith, length_sites)) (sym c.is_name_repeated.ensures ∙ c.if-is_name_repeated.true) c.loop-i.invariant

pub returns : goal.returns
returns c = least_index_none _ _ (λ k h. c.loop-i.invariant k (omega (arith, length_sites)))
