use Rattle.std.proofs.Common.{◌<◌, arith, subst, sym, ap, ◌∙◌}
use Rattle.fed_wire.specs.Reading.{text_value}
use Rattle.fed_world.specs.Kept.{IsReplica}
use Rattle.fed_model.specs.Run.{run}
use Rattle.fed_world.proofs.SentLaws.{ship_done}
use Rattle.fed_world.proofs.steps.ship_at.Goals as goal

pub returns-clause-done : goal.returns-clause-done
returns-clause-done c = λ n events few ranged held all.
    let small : c.get-index.result < n = omega (arith, held.count) in
    let there : c.args.to < n = omega (arith, held.count) in
    ship_done n events few c.args.site c.get-index.result c.args.to c.get-index.ensures.same small there ranged c.index-replicas-index.result
    (subst (IsReplica c.get-index.result ((run n events).site c.get-index.result)) (sym c.index-replicas-index.is) (held.each c.get-index.result c.index-replicas-index.result small))
    c.in_ok-packet.packet c.told_packets_are_within_limits.ensures c.in_ok-packet.ensures.sender c.in_ok-packet.ensures.need c.in_ok-packet.ensures.cut c.new-text.result (c.new-text.ensures ∙ c.in_ok-write.ensures.text) (ap text_value c.new-text.ensures ∙ c.in_ok-write.ensures.again)
    c.args.texts.now.items c.push.new.self.items c.len.result all c.in_ok-push.ensures.items (omega (arith, c.in_ok-push.ensures.len, c.len.ensures, c.args.texts.now.ok))
