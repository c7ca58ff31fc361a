use Rattle.std.proofs.Common.{append_assoc}
use Rattle.std.proofs.lemmas.Result.{IfOk-weaker}
use Rattle.fed_qstat.specs.Full.{head_line}
use Rattle.fed_qstat.proofs.full_lines.head_text.Goals as goal

pub returns : goal.returns
unfolding head_line
returns c = IfOk-weaker c.format.result _ _ (λ s e. rw e (simp append_assoc)) c.format.ensures.ok
