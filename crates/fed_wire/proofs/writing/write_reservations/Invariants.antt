use Rattle.std.proofs.Common.{◌≡◌, ◌++◌, map, All, IsSome}
use Rattle.std.specs.Map.{values_of}
use Rattle.serde_json.specs.View.{view}
use Rattle.fed_wire.specs.Reservations.{reservation_value}
use Rattle.fed_wire.proofs.writing.write_reservations.Given as goal

abbrev pub invariant-loop-id : goal.invariant-loop-id
invariant-loop-id l = record {
  left : map view l.values.items ++ map reservation_value l.id-iterator ≡ map reservation_value l.delta.changes.reservations;
  made : All IsSome (values_of l.id-iterator);
}
