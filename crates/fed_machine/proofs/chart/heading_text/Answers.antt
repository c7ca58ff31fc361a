use Rattle.std.proofs.Common.{append_assoc}
use Rattle.std.proofs.lemmas.Result.{IfOk-weaker}
use Rattle.fed_machine.specs.Chart.{text_of_heading}
use Rattle.fed_machine.proofs.chart.heading_text.Goals as goal

pub returns : goal.returns
unfolding text_of_heading
returns c = IfOk-weaker c.format.result _ _ (λ s e. rw e (rw (c.in_ok-site.ensures, c.plan_note-note.ensures) (simp append_assoc))) c.format.ensures.ok
