use Rattle.std.proofs.Common.{◌≡◌, []}
use Rattle.fed_machine.specs.Machine.{in_order, run_cmp}
use Rattle.fed_machine.proofs.Entries.{runs_of_entries}
use Rattle.fed_machine.proofs.machines.runs_at.Given as goal

abbrev pub invariant-loop-id : goal.invariant-loop-id
invariant-loop-id l = in_order run_cmp l.runs.keys (runs_of_entries l.here l.id-iterator) ≡ in_order run_cmp [] (runs_of_entries l.here l.board.jobs)
