use Rattle.std.proofs.Common.{append_assoc}
use Rattle.std.proofs.lemmas.Result.{IfOk-weaker}
use Rattle.fed_qstat.specs.Full.{attribute}
use Rattle.fed_qstat.proofs.full_lines.attribute_text.Goals as goal

pub returns : goal.returns
unfolding attribute
returns c = IfOk-weaker c.format.result _ _ (λ s e. rw e (simp append_assoc)) c.format.ensures.ok
