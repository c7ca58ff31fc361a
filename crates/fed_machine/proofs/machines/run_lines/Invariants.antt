use Rattle.std.proofs.Common.{◌≡◌, ◌++◌, flat_map, string_bytes}
use Rattle.fed_machine.specs.Machine.{line_of_run}
use Rattle.fed_machine.proofs.machines.run_lines.Given as goal

abbrev pub invariant-loop-run : goal.invariant-loop-run
invariant-loop-run l = string_bytes l.text ++ flat_map (line_of_run l.roster) l.run-iterator ≡ flat_map (line_of_run l.roster) l.runs.keys
