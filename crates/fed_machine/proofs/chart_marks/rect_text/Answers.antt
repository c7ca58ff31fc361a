use Rattle.std.proofs.Common.{append_assoc}
use Rattle.std.proofs.lemmas.Result.{IfOk-weaker}
use Rattle.fed_machine.specs.ChartMarks.{text_of_rect}
use Rattle.fed_machine.proofs.chart_marks.rect_text.Goals as goal

pub returns : goal.returns
unfolding text_of_rect
returns c = IfOk-weaker c.format.result _ _ (λ s e. rw e (simp append_assoc)) c.format.ensures.ok
