use Rattle.std.specs.Map.Iter.{deref_pair}
use Rattle.std.proofs.Common.{string_bytes}
use Rattle.std.proofs.lemmas.Map.Iter.{rest_all}
use Rattle.fed_looks.specs.Reserved.{line_of_window}
use Rattle.fed_looks.proofs.Entries.{standing_done}
use Rattle.fed_looks.proofs.reserved.reservation_lines.Goals as goal

pub returns : goal.returns
returns c =
    standing_done (line_of_window c.args.roster.now) c.args.board.now c.reservations-id-items.ensures.ascending c.reservations-id-items.ensures.ids (string_bytes c.loop-id.text)
    c.loop-id.id-iterator c.loop-id.invariant (rest_all deref_pair _ _ _ c.in-None.is c.next.ensures.steps)
