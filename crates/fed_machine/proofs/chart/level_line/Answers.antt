use Rattle.std.proofs.Common.{append_assoc}
use Rattle.std.proofs.lemmas.Result.{IfOk-weaker}
use Rattle.fed_machine.specs.Chart.{level_line_at}
use Rattle.fed_machine.proofs.chart.level_line.Goals as goal

pub returns : goal.returns
unfolding level_line_at
returns c = IfOk-weaker c.format.result _ _ (λ s e. rw e (simp append_assoc)) c.format.ensures.ok
