use Rattle.std.proofs.Common.{sym, ◌∙◌}
use Rattle.fed_replica.proofs.SameReplicas.{same_versions}
use Rattle.fed_replica.proofs.replicas.is_heard_the_same.Goals as goal

pub returns : goal.returns
returns c = let same = same_versions c.args.one.now c.args.other.now in (λ told. same.0 (sym c.eq.ensures ∙ told), λ e. c.eq.ensures ∙ same.1 e)
