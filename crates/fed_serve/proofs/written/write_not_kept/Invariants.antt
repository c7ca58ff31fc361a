use Rattle.std.specs.Borrow.{Bor}
use Rattle.std.specs.Prelude.{option_map}
use Rattle.std.specs.Io.KnownBytes.{Appends}
use Rattle.std.specs.Str.Lines.{lines}
use Rattle.std.proofs.Common.{◌≡◌, ◌++◌, List, ℕ, length}
use Rattle.fed_serve.specs.Written.{not_kept_text}
use Rattle.fed_serve.proofs.written.write_not_kept.Given as goal

-- what is written so far, and what is to be written of the rest
abbrev pub invariant-loop-after : goal.invariant-loop-after
invariant-loop-after g l =
    let words = option_map (λ (w : Bor (List ℕ)). w.now) l.fn.words in
    (written : List ℕ) × Appends (g.W.Write.contents l.fn.writer) (g.W.Write.contents l.writer) written
    × (written ++ not_kept_text l.fn.frames words (lines l.rest) ≡ not_kept_text l.fn.frames words (lines l.fn.text))
    × (option_map (λ (w : Bor (List ℕ)). w.now) l.words ≡ words)

abbrev pub decreases-loop-after : goal.decreases-loop-after
decreases-loop-after g l = length l.rest
