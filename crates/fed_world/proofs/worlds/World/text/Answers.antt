use Rattle.std.proofs.Common.{◌≡◌, ◌<◌, ◌-◌, suc, length, inl, inr, arith, ap, subst, sym, ◌∙◌}
use Rattle.fed_world.specs.Kept.{IsTextOf}
use Rattle.fed_model.specs.Run.{packet, run}
use Rattle.fed_world.proofs.SentLaws.{none_at, text_at}
use Rattle.fed_world.proofs.worlds.World.text.Goals.{then-packet-eq0-via-then-packet-eq0, then-packet-eq0-via-else-packet-eq0+then-packet-len}
use Rattle.fed_world.proofs.worlds.World.text.Goals as goal

pub returns-then-packet-eq0 : goal.returns-then-packet-eq0
returns-then-packet-eq0 c =
    let w = run (length c.self.inside.replicas.items) c.self.inside.events.items in
    rw (← c.self.view_is) (none_at w c.self.inside.texts.items c.args.packet c.self.invariant.texts (elim c.then-packet-eq0.branch [
      | then-packet-eq0-via-then-packet-eq0 w ↦ inl (omega arith)
      | then-packet-eq0-via-else-packet-eq0+then-packet-len w ↦ inr (omega arith)
    ]))

pub returns : goal.returns
returns c =
    let w = run (length c.self.inside.replicas.items) c.self.inside.events.items in
    let there : c.args.packet - 1 < length c.self.inside.texts.items = omega arith in
    let numbered : c.args.packet ≡ suc (c.args.packet - 1) = omega arith in
    let p = text_at w.packets c.self.inside.texts.items (c.args.packet - 1) c.index.result.now c.self.invariant.texts there in
    rw (← c.self.view_is) (p.0, ap (packet w) numbered ∙ p.1, subst (IsTextOf p.0) (sym (c.bytes.ensures ∙ c.index.ensures)) p.2)
