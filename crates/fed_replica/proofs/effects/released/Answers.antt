use Rattle.std.proofs.Common.{ap, ◌∙◌}
use Rattle.std.proofs.lemmas.Result.{IfOk-weaker}
use Rattle.fed_record.specs.Operation.{has_hold_pair}
use Rattle.fed_replica.proofs.RemovedPairs.{holds_removed}
use Rattle.fed_replica.proofs.effects.released.Goals as goal

pub returns : goal.returns
returns c =
    IfOk-weaker c.hold_pairs.result _ _ (λ v e. ap has_hold_pair e ∙ holds_removed c.args.kinds c.args.job.now.holds) c.hold_pairs.ensures
