use Rattle.std.proofs.Common.{◌≤◌, vec_len}
use Rattle.std.specs.Io.KnownBytes.{Consumes}
use Rattle.fed_replay.specs.declared.script.TheConstants.{MAX_SCRIPT_BYTES}
use Rattle.fed_replay.proofs.script.read_script.Given as goal

abbrev pub invariant-loop : goal.invariant-loop
invariant-loop g l = record {
  taken : Consumes (g.R.Read.remaining l.fn.reader) (g.R.Read.remaining l.reader) l.script.items;
  size : vec_len l.script ≤ MAX_SCRIPT_BYTES;
}
