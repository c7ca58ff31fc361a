use Rattle.std.proofs.Common.{append_assoc}
use Rattle.std.proofs.lemmas.Result.{IfOk-weaker}
use Rattle.fed_machine.specs.ChartMarks.{text_of_label}
use Rattle.fed_machine.proofs.chart_marks.label_text.Goals as goal

pub returns : goal.returns
unfolding text_of_label
returns c = IfOk-weaker c.format.result _ _ (λ s e. rw e (rw (c.in_ok-place.ensures, c.in_ok-turning.ensures) (simp append_assoc))) c.format.ensures.ok
