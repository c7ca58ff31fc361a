use Rattle.std.specs.Map.Iter.{deref_pair}
use Rattle.std.proofs.Common.{map, ap, ◌∙◌}
use Rattle.std.proofs.lemmas.Map.Iter.{rest_all}
use Rattle.serde_json.specs.View.{view}
use Rattle.serde_json.proofs.Views.{view-Array}
use Rattle.fed_json.specs.Values.{list_value}
use Rattle.fed_looks.specs.Reserved.{window_object}
use Rattle.fed_looks.proofs.Entries.{standing_done}
use Rattle.fed_looks.proofs.reserved.reservation_objects.Goals as goal

pub returns : goal.returns
returns c =
    view-Array _ ∙ ap list_value (standing_done (window_object c.args.roster.now) c.args.board.now c.reservations-id-items.ensures.ascending c.reservations-id-items.ensures.ids (map view c.loop-id.values.items)
    c.loop-id.id-iterator c.loop-id.invariant (rest_all deref_pair _ _ _ c.in-None.is c.next.ensures.steps))
