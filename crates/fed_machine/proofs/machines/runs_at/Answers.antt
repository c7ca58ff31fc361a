use Rattle.std.specs.Map.Iter.{deref_pair}
use Rattle.std.proofs.lemmas.Map.Iter.{rest_all}
use Rattle.fed_machine.proofs.Entries.{runs_done}
use Rattle.fed_machine.proofs.machines.runs_at.Goals as goal

pub returns : goal.returns
returns c =
    runs_done c.args.here c.args.board.now c.jobs-id-items.ensures.ascending c.jobs-id-items.ensures.ids c.loop-id.runs.keys
    c.loop-id.id-iterator c.loop-id.invariant (rest_all deref_pair _ _ _ c.in-None.is c.next.ensures.steps)
