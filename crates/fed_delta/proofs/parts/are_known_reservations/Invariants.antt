use Rattle.fed_board.specs.Board.{IsKnownReservation}
use Rattle.fed_delta.proofs.PartLaws.{IsLeft}
use Rattle.fed_delta.proofs.parts.are_known_reservations.Given as goal

abbrev pub invariant-loop-id : goal.invariant-loop-id
invariant-loop-id l = IsLeft (IsKnownReservation l.version) l.reservations l.id-iterator
