use Rattle.std.specs.Map.Iter.{deref_pair}
use Rattle.std.proofs.lemmas.Map.Iter.{rest_all}
use Rattle.fed_easy.proofs.BoardEntries.{reserved_done}
use Rattle.fed_easy.proofs.bookings.add_reserved.Goals as goal

pub returns : goal.returns
returns c =
    reserved_done c.args.site c.args.board.now c.reservations-reservation-items.ensures.ascending c.reservations-reservation-items.ensures.ids c.args.bookings.now.items c.loop-reservation.bookings.items
    c.loop-reservation.reservation-iterator c.loop-reservation.invariant (rest_all deref_pair _ _ _ c.in-None.is c.next.ensures.steps)
