use Rattle.std.proofs.Common.{◌≡◌, ◌≤◌, ◌+◌, ◌-◌, ◌^◌, min}
use Rattle.fed_easy.specs.Use.{use_at}
use Rattle.fed_easy.proofs.BoardEntries.{read_reserved}
use Rattle.fed_easy.proofs.nodes_in_use.nodes_of_reservations.Given as goal

abbrev pub invariant-loop-reservation : goal.invariant-loop-reservation
invariant-loop-reservation l =
    (l.used ≤ 2 ^ 64 - 1)
    × (min (l.used + use_at (read_reserved l.site l.reservation-iterator) l.moment) (2 ^ 64 - 1)
    ≡ min (use_at (read_reserved l.site l.board.reservations) l.moment) (2 ^ 64 - 1))
