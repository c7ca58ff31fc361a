use Rattle.std.proofs.Common.{◌≡◌, ◌<◌, ◌-◌, suc, length, inl, inr, arith, ap, subst, sym, ◌∙◌}
use Rattle.fed_job_json.specs.declared.formats.Format.TheVariants.{Two}
use Rattle.fed_wire.specs.Reading.{text_value}
use Rattle.fed_world.specs.Kept.{IsSentOf, IsTextOf}
use Rattle.fed_model.specs.Run.{packet, run}
use Rattle.fed_world.proofs.SentLaws.{no_packet, text_at, read_sent, packet_done}
use Rattle.fed_world.proofs.steps.take_at.Goals.{then-number-eq0-via-then-number-eq0, then-number-eq0-via-else-number-eq0+then-number-texts}
use Rattle.fed_world.proofs.steps.take_at.Goals as goal

pub returns-then-number-eq0-clause-done : goal.returns-then-number-eq0-clause-done
returns-then-number-eq0-clause-done c = λ n events few held all.
    let small : c.args.site < n = omega (arith, held.count) in
    no_packet n events few c.args.replicas.now held c.args.site c.args.number c.args.texts.now all small (elim c.then-number-eq0.branch [
      | then-number-eq0-via-then-number-eq0 w ↦ inl (omega arith)
      | then-number-eq0-via-else-number-eq0+then-number-texts w ↦ inr (omega arith)
    ])

pub returns-clause-done : goal.returns-clause-done
returns-clause-done c = λ n events few held all.
    let small : c.get-index.result < n = omega (arith, held.count) in
    let there : c.args.number - 1 < length c.args.texts.now = omega arith in
    let numbered : c.args.number ≡ suc (c.args.number - 1) = omega arith in
    let p = text_at (run n events).packets c.args.texts.now (c.args.number - 1) c.index-texts-packet_index.result all there in
    let text : IsTextOf p.0 c.index-texts-packet_index.result = subst (IsTextOf p.0) (sym c.index-texts-packet_index.is) p.2 in
    let sent : IsSentOf p.0 c.in-Ok.packet = read_sent p.0 _ text c.read.result c.in-Ok.packet c.in-Ok.is (c.read.ensures.only Two text.sent text.limits (ap text_value c.bytes.ensures ∙ text.again)) in
    packet_done n events few c.args.replicas.now held c.args.site c.get-index.result c.get-index.ensures.same small c.args.number p.0 c.in-Ok.packet
    (ap (packet (run n events)) numbered ∙ p.1) sent
    _ c.receive.new.self (held.each c.get-index.result c.index-replicas-index.result small)
    c.in_ok-received.ensures.stands c.outcome.result (c.outcome.ensures ∙ c.in_ok-received.ensures.said) c.in_ok-received.ensures.left
