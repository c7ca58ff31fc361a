use Rattle.std.proofs.Common.{◌≡◌, ◌++◌, flat_map, string_bytes}
use Rattle.fed_machine.specs.Machine.{line_of_reserved}
use Rattle.fed_machine.proofs.machines.reserved_lines.Given as goal

abbrev pub invariant-loop-reserved : goal.invariant-loop-reserved
invariant-loop-reserved l = string_bytes l.text ++ flat_map (line_of_reserved l.roster) l.reserved-iterator ≡ flat_map (line_of_reserved l.roster) l.all.keys
