use Rattle.std.specs.Map.Iter.{deref_pair}
use Rattle.std.proofs.Common.{◌∙◌, ◌-◌, ◌^◌, min, sym, ap}
use Rattle.std.proofs.lemmas.Map.Iter.{rest_all}
use Rattle.fed_easy.specs.Use.{use_at}
use Rattle.fed_easy.proofs.BoardEntries.{read_reserved, reserved_read}
use Rattle.fed_easy.proofs.UsedNodes.{counted_all}
use Rattle.fed_easy.proofs.nodes_in_use.nodes_of_reservations.Goals as goal

pub returns : goal.returns
returns c =
    counted_all (2 ^ 64 - 1) c.loop-reservation.used _ _ (ap (λ l. use_at (read_reserved c.args.site l) c.args.moment) (rest_all deref_pair _ _ _ c.in-None.is c.next.ensures.steps)) c.loop-reservation.invariant.0 c.loop-reservation.invariant.1
    ∙ ap (λ l. min (use_at l c.args.moment) (2 ^ 64 - 1)) (sym (reserved_read c.args.site c.args.board.now c.reservations-reservation-items.ensures.ascending c.reservations-reservation-items.ensures.ids))
