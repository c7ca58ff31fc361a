use Rattle.std.proofs.Common.{◌≡◌, [], length, map, drop}
use Rattle.std.specs.Map.{keys_of}
use Rattle.serde_json.specs.View.{view}
use Rattle.fed_wire.specs.Reservations.{reservation_of}
use Rattle.fed_wire.specs.declared.faults.Part.TheVariants.{Reservations}
use Rattle.fed_wire.specs.Identifiers.{AreKept}
use Rattle.fed_wire.specs.Packet.{reservation_stands}
use Rattle.fed_wire.specs.Reading.{each_in}
use Rattle.fed_wire.proofs.reservations.all_reservations.Given as goal

abbrev pub invariant-loop-index : goal.invariant-loop-index
invariant-loop-index l = record {
  many : length l.reservations ≡ l.index;
  ids : AreKept l.ids (keys_of l.reservations);
  read : each_in Reservations reservation_of (reservation_stands l.reached) l.reservations (map view (drop l.index l.values)) ≡ each_in Reservations reservation_of (reservation_stands l.reached) [] (map view l.values);
}
