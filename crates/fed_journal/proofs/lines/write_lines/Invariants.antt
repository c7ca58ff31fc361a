use Rattle.std.proofs.Common.{take, map}
use Rattle.fed_journal.proofs.Writing.{Wrote}
use Rattle.fed_journal.proofs.lines.write_lines.Given as goal

abbrev pub invariant-loop-text : goal.invariant-loop-text
invariant-loop-text l = Wrote l.before (map (λ text. text.now) (take l.text-index l.texts)) l.bytes.items l.digest
