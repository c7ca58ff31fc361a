use Rattle.std.specs.Borrow.{Bor}
use Rattle.std.specs.List.{All}
use Rattle.std.proofs.Common.{ℕ, List, drop, map}
use Rattle.fed_site.specs.Told.{IsTold, answers_in}
use Rattle.fed_home.proofs.Answering.{IsRun}
use Rattle.fed_home.proofs.runs.answer_lines.Given as goal

abbrev pub invariant-loop-line : goal.invariant-loop-line
invariant-loop-line l = record {
  run : IsRun l.fn.site l.site (map (λ (line : Bor (List ℕ)). line.now) l.lines) (map (λ (line : Bor (List ℕ)). line.now) (drop l.line-index l.lines)) (answers_in l.answers.items) (map (λ (line : Bor (List ℕ)). line.now) l.kept.items);
  told : All (IsTold l.asked) l.answers.items;
}
