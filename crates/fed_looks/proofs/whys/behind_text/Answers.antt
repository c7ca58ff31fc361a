use Rattle.std.proofs.Common.{◌≡◌, ◌∙◌, append_assoc, false, sym}
use Rattle.std.proofs.lemmas.Result.{IfOk-weaker}
use Rattle.fed_stamp.specs.Stamp.{same_stamp}
use Rattle.fed_looks.proofs.whys.behind_text.Goals as goal

pub returns : goal.returns
returns c =
    let other : same_stamp c.args.id c.args.head ≡ false = sym c.eq.ensures ∙ c.if-eq.false in
    IfOk-weaker c.format-2.result _ _ (λ s e. rw other (rw e (rw c.in_ok-head_id.ensures (simp append_assoc)))) c.format-2.ensures.ok
