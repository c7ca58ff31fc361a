use Rattle.std.proofs.Common.{◌+◌, ◌≤◌, length}
use Rattle.std.specs.Str.Lines.{lines}
use Rattle.fed_replay.specs.ScriptWorld.{state_of}
use Rattle.fed_replay.proofs.Progress.{Progress}
use Rattle.fed_replay.proofs.run.run_lines.Given as goal

abbrev pub invariant-loop-line : goal.invariant-loop-line
invariant-loop-line g l = record {
  progress : Progress (g.W.Write.contents l.fn.writer) (g.W.Write.contents l.writer) (lines l.script) (lines l.rest) (state_of l.session.world) l.number;
  few : l.number + length l.rest ≤ length l.script;
}

abbrev pub decreases-loop-line : goal.decreases-loop-line
decreases-loop-line g l = length l.rest
