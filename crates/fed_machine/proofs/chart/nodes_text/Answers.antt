use Rattle.std.proofs.Common.{append_assoc}
use Rattle.std.proofs.lemmas.Result.{IfOk-weaker}
use Rattle.fed_machine.specs.Chart.{text_of_nodes}
use Rattle.fed_machine.proofs.chart.nodes_text.Goals as goal

pub returns : goal.returns
unfolding text_of_nodes
returns c = IfOk-weaker c.format.result _ _ (λ s e. rw e (rw (c.in_ok-line.ensures, c.rise.ensures.value) (simp append_assoc))) c.format.ensures.ok
