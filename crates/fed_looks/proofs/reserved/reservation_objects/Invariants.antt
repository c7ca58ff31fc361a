use Rattle.std.proofs.Common.{◌≡◌, ◌++◌, map}
use Rattle.serde_json.specs.View.{view}
use Rattle.fed_looks.specs.Reserved.{window_object}
use Rattle.fed_looks.proofs.Entries.{said_of}
use Rattle.fed_looks.proofs.reserved.reservation_objects.Given as goal

abbrev pub invariant-loop-id : goal.invariant-loop-id
invariant-loop-id l = map view l.values.items ++ said_of (window_object l.roster) l.id-iterator ≡ said_of (window_object l.roster) l.board.reservations
