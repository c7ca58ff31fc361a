use Rattle.std.proofs.Common.{◌≡◌, []}
use Rattle.fed_machine.specs.Machine.{in_order, reserved_cmp}
use Rattle.fed_machine.proofs.Entries.{reserved_of_entries}
use Rattle.fed_machine.proofs.machines.reserved_at.Given as goal

abbrev pub invariant-loop-id : goal.invariant-loop-id
invariant-loop-id l = in_order reserved_cmp l.all.keys (reserved_of_entries l.here l.moment l.id-iterator) ≡ in_order reserved_cmp [] (reserved_of_entries l.here l.moment l.board.reservations)
