use Rattle.std.proofs.Common.{◌∙◌, sym, refl, subst, List, ℕ, map, arith, Bor}
use Rattle.std.specs.List.{All}
use Rattle.std.proofs.lemmas.Bool.{true≢false}
use Rattle.std.proofs.lemmas.List.{take_all}
use Rattle.fed_journal.specs.Lines.{IsLine}
use Rattle.fed_journal.proofs.Writing.{line_at}
use Rattle.fed_journal.proofs.lines.are_lines.Goals as goal

pub returns-then-not-is_line : goal.returns-then-not-is_line
returns-then-not-is_line c =
    (λ is. absurd (true≢false (sym is)), λ all. absurd (true≢false (sym (c.is_line.ensures.1 (line_at c.args.texts.now c.loop-text.text-index _ c.loop-text-test.true all)) ∙ c.if-not-is_line.true)))

pub returns : goal.returns
returns c =
    (λ is. subst (λ (ts : List (Bor (List ℕ))). All IsLine (map (λ text. text.now) ts)) (take_all c.loop-text.text-index c.args.texts.now (omega (arith, c.loop-text-test.false))) c.loop-text.invariant, λ all. refl)
