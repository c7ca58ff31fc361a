use Rattle.std.proofs.Common.{append_assoc}
use Rattle.std.proofs.lemmas.Result.{IfOk-weaker}
use Rattle.fed_machine.specs.Chart.{text_of_head}
use Rattle.fed_machine.proofs.chart.head_text.Goals as goal

pub returns : goal.returns
unfolding text_of_head
returns c = IfOk-weaker c.format.result _ _ (λ s e. rw e (simp append_assoc)) c.format.ensures.ok
