use Rattle.std.proofs.Common.{◌≡◌, ◌+◌, ◌≤◌, length}
use Rattle.std.specs.Str.Lines.{lines}
use Rattle.fed_main.specs.Live.{unread, unread_from}
use Rattle.fed_main.proofs.live_lines.read_lines.Given as goal

abbrev pub invariant-loop-line : goal.invariant-loop-line
invariant-loop-line l = record {
  left : unread l.script ≡ unread_from (1 + l.number) l.read.sites (lines l.rest);
  few : l.number + length l.rest ≤ length l.script;
}

abbrev pub decreases-loop-line : goal.decreases-loop-line
decreases-loop-line l = length l.rest
