use Rattle.std.specs.Prelude.{◌↔◌, IsTrue}
use Rattle.std.proofs.Common.{◌≡◌, ◌∙◌, false, true, sym, ap}
use Rattle.fed_replica.specs.Replica.{ReplicaValue}
use Rattle.fed_replica.proofs.SameReplicas.{boards_differ, same_replicas, sites_differ}
use Rattle.fed_replica.proofs.SameStates.{told_as_read}
use Rattle.fed_replica.proofs.replicas.Replica.is_same.Goals.{then-ne-via-then-ne, then-ne-via-else-ne+then-ne-2}
use Rattle.fed_replica.proofs.replicas.Replica.is_same.Goals as goal

pub returns-then-ne : goal.returns-then-ne
returns-then-ne c =
    let told : IsTrue false ↔ (c.args.self.now ≡ c.args.other.now) = (
      λ told. absurd (let f : false ≡ true = told in cc),
      λ same. elim c.then-ne.branch [
        | then-ne-via-then-ne w ↦ sites_differ _ _ (sym c.ne.ensures ∙ w.if-ne.true) (c.self.view_is ∙ same ∙ sym c.other.view_is)
        | then-ne-via-else-ne+then-ne-2 w ↦ boards_differ _ _ (sym w.ne-else-ne.ensures ∙ w.if-ne-2.true) (c.self.view_is ∙ same ∙ sym c.other.view_is)
      ],
    ) in
    record {
      same = told;
      read = told_as_read _ _ c.self.invariant c.other.invariant c.boards_that_read_the_same_are_equal.ensures c.args.self.now c.args.other.now (IsTrue false) c.self.view_is c.other.view_is told;
    }

pub returns : goal.returns
returns c =
    let told : IsTrue c.is_heard_the_same.result ↔ (c.args.self.now ≡ c.args.other.now) = (
      λ told. sym c.self.view_is ∙ same_replicas _ _ (sym c.ne.ensures ∙ c.if-ne.false) (sym c.ne-else-ne.ensures ∙ c.if-ne-2.false) (c.is_heard_the_same.ensures.0 told) ∙ c.other.view_is,
      λ same. c.is_heard_the_same.ensures.1 (ap (λ (r : ReplicaValue). r.heard) (c.self.view_is ∙ same ∙ sym c.other.view_is)),
    ) in
    record {
      same = told;
      read = told_as_read _ _ c.self.invariant c.other.invariant c.boards_that_read_the_same_are_equal.ensures c.args.self.now c.args.other.now _ c.self.view_is c.other.view_is told;
    }
