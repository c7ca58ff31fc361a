use Rattle.fed_board.proofs.merging.joins_are_associative.Goals as goal

pub returns : goal.returns
returns g c = g.met.V.Causal.joined_assoc
