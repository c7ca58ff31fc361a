use Rattle.std.specs.Map.Iter.{deref_pair}
use Rattle.std.proofs.lemmas.Map.Iter.{rest_all}
use Rattle.fed_machine.proofs.Entries.{reserved_done}
use Rattle.fed_machine.proofs.machines.reserved_at.Goals as goal

pub returns : goal.returns
returns c =
    reserved_done c.args.here c.args.moment c.args.board.now c.reservations-id-items.ensures.ascending c.reservations-id-items.ensures.ids c.loop-id.all.keys
    c.loop-id.id-iterator c.loop-id.invariant (rest_all deref_pair _ _ _ c.in-None.is c.next.ensures.steps)
