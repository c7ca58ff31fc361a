use Rattle.std.specs.List.{list_any}
use Rattle.std.specs.Map.{values_of}
use Rattle.std.proofs.Common.{◌≡◌, All, IsSome}
use Rattle.fed_replica.specs.Retiring.{is_open_reservation}
use Rattle.fed_replica.proofs.retire_steps.has_open_reservation.Given as goal

abbrev pub invariant-loop-id : goal.invariant-loop-id
invariant-loop-id l = record {
  left : list_any (is_open_reservation l.here l.first l.last) l.id-iterator ≡ list_any (is_open_reservation l.here l.first l.last) l.board.reservations;
  made : All IsSome (values_of l.id-iterator);
}
