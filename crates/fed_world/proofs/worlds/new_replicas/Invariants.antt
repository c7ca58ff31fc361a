use Rattle.fed_world.specs.Kept.{AreReplicas}
use Rattle.fed_model.specs.Run.{start}
use Rattle.fed_world.proofs.worlds.new_replicas.Given as goal

abbrev pub invariant-loop-number : goal.invariant-loop-number
invariant-loop-number l = AreReplicas l.number start l.replicas.items
