use Rattle.std.proofs.Common.{◌≡◌, ◌≤◌, ◌+◌, ◌++◌, length}
use Rattle.std.specs.List.{All}
use Rattle.fed_journal.specs.Lines.{IsLine, first_digest, last_digest, open_lines, texts_of}
use Rattle.fed_journal.proofs.lines.read_lines.Given as goal

abbrev pub invariant-loop-alloc : goal.invariant-loop-alloc
invariant-loop-alloc l = record {
  split : l.file ≡ open_lines first_digest (texts_of l.entries.items) ++ l.rest;
  lines : All IsLine (texts_of l.entries.items);
  last : l.digest ≡ last_digest first_digest (texts_of l.entries.items);
  count : length l.entries.items + length l.rest ≤ length l.file;
}

abbrev pub decreases-loop-alloc : goal.decreases-loop-alloc
decreases-loop-alloc l = length l.rest
