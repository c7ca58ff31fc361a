use Rattle.std.proofs.Common.{take, map}
use Rattle.std.specs.List.{All}
use Rattle.fed_journal.specs.Lines.{IsLine}
use Rattle.fed_journal.proofs.lines.are_lines.Given as goal

abbrev pub invariant-loop-text : goal.invariant-loop-text
invariant-loop-text l = All IsLine (map (λ text. text.now) (take l.text-index l.texts))
