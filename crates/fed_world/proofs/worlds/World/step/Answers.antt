use Rattle.std.proofs.Common.{◌≡◌, List, length, sym, subst, ap, ◌∙◌, ◌++◌, ◌∷◌, []}
use Rattle.fed_replica.specs.Replica.{ReplicaValue}
use Rattle.fed_world.specs.Kept.{AreReplicas, IsKept}
use Rattle.fed_model.specs.Run.{run}
use Rattle.fed_world.proofs.SentLaws.{kept_after, lent_whole}
use Rattle.fed_world.proofs.worlds.World.step.Goals as goal

pub invariant_of-self-2 : goal.invariant_of-self-2
invariant_of-self-2 c =
    let n = length c.self.inside.replicas.items in
    let kept : IsKept n c.self.inside.events.items c.self.inside.replicas.items c.self.inside.texts.items = c.self.invariant in
    let written = lent_whole c.self.inside.replicas.len c.run_event.new.replicas c.self.inside.replicas.items c.self.inside.replicas.ok.0 (c.run_event.auto.replicas ∙ ap length c.deref_mut.ensures.value) in
    let whole : length c.run_event.new.replicas ≡ n = c.run_event.auto.replicas ∙ ap length c.deref_mut.ensures.value in
    let done = c.in_ok-outcome.ensures.done n c.self.inside.events.items kept.few kept.ranged (subst (AreReplicas n (run n c.self.inside.events.items)) (sym c.deref_mut.ensures.value) kept.replicas) kept.texts in
    let after : IsKept n c.keep.new.events.items c.run_event.new.replicas c.run_event.new.texts.items =
    kept_after n c.self.inside.events.items c.keep.new.events.items c.args.event.now c.self.inside.replicas.items c.run_event.new.replicas c.self.inside.texts.items c.run_event.new.texts.items
    kept c.events_are_ranged.ensures (c.keep.ensures ∙ ap (λ es. es ++ c.args.event.now ∷ []) c.in_ok-reserve.ensures.items) done.1 done.2 in
    subst (λ (rs : List ReplicaValue). IsKept (length rs) c.keep.new.events.items rs c.run_event.new.texts.items) (sym written)
    (subst (λ m. IsKept m c.keep.new.events.items c.run_event.new.replicas c.run_event.new.texts.items) (sym whole) after)
