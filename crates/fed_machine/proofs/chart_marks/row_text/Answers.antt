use Rattle.std.proofs.Common.{◌≡◌, append_assoc, string_bytes}
use Rattle.std.proofs.lemmas.Result.{IfOk-weaker}
use Rattle.fed_machine.specs.ChartMarks.{class_of, text_of_row, words_of}
use Rattle.fed_machine.proofs.chart_marks.row_text.Goals as goal

pub returns : goal.returns
unfolding text_of_row
returns c =
    let kind : c.class-class.result.now ≡ class_of c.args.bar.now.kind = c.class-class.ensures in
    let said : string_bytes c.in_ok-words.words ≡ words_of c.args.roster.now c.args.moment c.args.bar.now = c.in_ok-words.ensures in
    IfOk-weaker c.format.result _ _ (λ s e. rw e (rw (kind, said) (simp append_assoc))) c.format.ensures.ok
