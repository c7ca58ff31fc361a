use Rattle.std.proofs.Common.{ap, ◌∙◌}
use Rattle.std.proofs.lemmas.Result.{IfOk-weaker}
use Rattle.fed_record.specs.Operation.{has_site_pair}
use Rattle.fed_replica.proofs.RemovedPairs.{sites_removed}
use Rattle.fed_replica.proofs.effects.replaced.Goals as goal

pub returns-in-Some-clause-pairs : goal.returns-in-Some-clause-pairs
returns-in-Some-clause-pairs c =
    rw c.in-Some.is (IfOk-weaker c.site_pairs.result _ _ (λ v e. ap has_site_pair e ∙ sites_removed c.args.job.now.sites) c.site_pairs.ensures)
