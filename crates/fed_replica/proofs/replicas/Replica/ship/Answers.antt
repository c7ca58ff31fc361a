use Rattle.std.proofs.Common.{ap, ◌∙◌}
use Rattle.fed_model.specs.View.{View}
use Rattle.fed_theory.specs.Cut.{cut}
use Rattle.fed_delta.specs.Delta.{DeltaValue}
use Rattle.fed_replica.proofs.replicas.Replica.ship.Goals as goal

pub returns-clause-reached : goal.returns-clause-reached
unfolding cut
returns-clause-reached c =
    rw (← c.self.view_is) (ap (λ (d : DeltaValue). d.changes.version) c.new.ensures.delta ∙ ap (λ (v : View). v.version) c.in_ok-delta.ensures.cut)
