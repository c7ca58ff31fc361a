use Rattle.fed_turns.proofs.Knowing.{restored_again}
use Rattle.fed_turns.proofs.laws.compacted_sites_are_restored.Goals as goal

pub returns : goal.returns
returns c whole rosters turns i text n lawful may known own t all = restored_again whole lawful.at_most rosters turns i may own text t n known.at_most all
