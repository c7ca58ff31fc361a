use Rattle.fed_turns.proofs.Knowing.{known_again}
use Rattle.fed_turns.proofs.laws.known_texts_are_read_again.Goals as goal

pub returns : goal.returns
returns c = λ whole rosters turns i text is may own t. known_again whole is.at_most rosters turns i may own text t
