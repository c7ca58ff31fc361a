use Rattle.std.specs.Prelude.{min, ◌^◌, ◌-◌}
use Rattle.std.proofs.Common.{◌≡◌, ◌+◌, ◌<◌, drop}
use Rattle.fed_home.proofs.Entries.{line_bytes}
use Rattle.fed_home.proofs.compactions.bytes_of.Given as goal

abbrev pub invariant-loop-entry : goal.invariant-loop-entry
invariant-loop-entry l = record {
  small : l.bytes < 2 ^ 64;
  total : min (l.bytes + line_bytes (drop l.entry-index l.entries)) (2 ^ 64 - 1) ≡ min (1 + line_bytes l.entries) (2 ^ 64 - 1);
}
