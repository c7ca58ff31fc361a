use Rattle.fed_board.proofs.merging.joins_are_commutative.Goals as goal

pub returns : goal.returns
returns g c = g.met.V.Causal.joined_comm
