use Rattle.std.proofs.Common.{◌≡◌, ◌++◌}
use Rattle.fed_easy.proofs.BoardEntries.{read_reserved}
use Rattle.fed_easy.proofs.bookings.add_reserved.Given as goal

abbrev pub invariant-loop-reservation : goal.invariant-loop-reservation
invariant-loop-reservation l = l.bookings.items ++ read_reserved l.site l.reservation-iterator ≡ l.fn.bookings.items ++ read_reserved l.site l.board.reservations
