use Rattle.std.proofs.Common.{append_assoc}
use Rattle.std.proofs.lemmas.Result.{IfOk-weaker}
use Rattle.fed_machine.specs.ChartMarks.{text_of_turning}
use Rattle.fed_machine.proofs.chart_marks.turning_text.Goals as goal

pub returns : goal.returns
unfolding text_of_turning
returns c = IfOk-weaker c.format.result _ _ (λ s e. rw e (rw (c.turn-turn.ensures) (simp append_assoc))) c.format.ensures.ok
