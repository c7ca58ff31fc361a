use Rattle.std.specs.Borrow.{Bor}
use Rattle.std.proofs.Common.{◌∙◌, sym, ap, ℕ, List, Vec, map}
use Rattle.std.specs.declared.alloc.Global.{Global}
use Rattle.fed_site.specs.SiteAnswer.{kept_of}
use Rattle.fed_site.specs.Told.{answers_in}
use Rattle.fed_home.proofs.Answering.{starts, answered_more, keeps_more, keeps_same, all_answered, all_replies, all_kept, answer_more, told_none, told_more}
use Rattle.fed_home.proofs.runs.answer_lines.Goals as goal
use Rattle.fed_home.proofs.runs.answer_lines.Goals.{then-is_kept+in_ok-push, else-is_kept}

pub loop-line-init : goal.loop-line-init
loop-line-init c = record {
  run = starts c.args.site.now (map (λ (line : Bor (List ℕ)). line.now) c.args.lines.now) (answers_in c.new-answers.result.items) c.new-kept.result.items (ap answers_in c.new-answers.ensures.items) c.new-kept.ensures.items;
  told = told_none c.args.asked c.new-answers.result.items c.new-answers.ensures.items;
}

pub loop-line-preserved : goal.loop-line-preserved
loop-line-preserved c = record {
  run = answered_more c.args.site.now c.loop-line.site c.answer.new.self c.args.lines.now c.loop-line.line-index _ (answers_in c.loop-line.answers.items) _ c.in_ok-answered.answered c.loop-line.kept.items c.if-is_kept.kept.items
      c.loop-line-test.true c.loop-line.invariant.run c.in_ok-answered.ensures.said
      (answer_more c.loop-line.answers.items _ c.in_ok-told.told c.in_ok-answered.answered c.in_ok-push-2.ensures.items c.in_ok-told.ensures.answer)
      (elim c.if-is_kept.branch [
        | then-is_kept+in_ok-push w ↦ keeps_more c.loop-line.kept.items c.if-is_kept.kept.items _ (kept_of c.in_ok-answered.answered) (sym c.is_kept.ensures ∙ w.if-is_kept.true) (ap (λ (v : Vec (Bor (List ℕ)) Global). v.items) w.kept-is ∙ w.in_ok-push.ensures.items)
        | else-is_kept w ↦ keeps_same c.loop-line.kept.items c.if-is_kept.kept.items _ (kept_of c.in_ok-answered.answered) (sym c.is_kept.ensures ∙ w.if-is_kept.false) (ap (λ (v : Vec (Bor (List ℕ)) Global). v.items) w.kept-is)
      ]);
  told = told_more c.args.asked c.loop-line.answers.items _ c.in_ok-told.told c.loop-line.invariant.told c.in_ok-told.ensures.words c.in_ok-push-2.ensures.items;
}

pub returns-clause-roster : goal.returns-clause-roster
returns-clause-roster c =
    (all_answered c.args.site.now c.loop-line.site c.args.lines.now c.loop-line.line-index (answers_in c.loop-line.answers.items) _ c.loop-line-test.false c.loop-line.invariant.run).roster

pub returns-clause-after : goal.returns-clause-after
returns-clause-after c =
    (all_answered c.args.site.now c.loop-line.site c.args.lines.now c.loop-line.line-index (answers_in c.loop-line.answers.items) _ c.loop-line-test.false c.loop-line.invariant.run).after

pub returns-clause-answers : goal.returns-clause-answers
returns-clause-answers c =
    all_replies c.args.site.now c.loop-line.site _ (answers_in c.loop-line.answers.items) _ (all_answered c.args.site.now c.loop-line.site c.args.lines.now c.loop-line.line-index (answers_in c.loop-line.answers.items) _ c.loop-line-test.false c.loop-line.invariant.run)

pub returns-clause-kept : goal.returns-clause-kept
returns-clause-kept c =
    all_kept c.args.site.now c.loop-line.site _ (answers_in c.loop-line.answers.items) _ (all_answered c.args.site.now c.loop-line.site c.args.lines.now c.loop-line.line-index (answers_in c.loop-line.answers.items) _ c.loop-line-test.false c.loop-line.invariant.run)

pub returns-clause-words : goal.returns-clause-words
returns-clause-words c = c.loop-line.invariant.told
