use Rattle.std.specs.Borrow.{Bor}
use Rattle.std.proofs.Common.{◌≡◌, ℕ, List, map, take}
use Rattle.fed_journal.specs.Lines.{texts_of}
use Rattle.fed_home.proofs.runs.texts.Given as goal

abbrev pub invariant-loop-entry : goal.invariant-loop-entry
invariant-loop-entry l = map (λ (text : Bor (List ℕ)). text.now) l.texts.items ≡ texts_of (take l.entry-index l.entries)
