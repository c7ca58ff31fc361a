use Rattle.std.specs.Prelude.{Err, Result}
use Rattle.std.proofs.Common.{ap, ◌∙◌}
use Rattle.serde_json.specs.Errors.{IsMemory}
use Rattle.serde_json.specs.View.{view}
use Rattle.fed_wire.specs.declared.faults.WireFault.{WireFault}
use Rattle.fed_delta.specs.Packet.{PacketValue}
use Rattle.fed_wire.proofs.TextLaws.{text_some, text_none, value_read, not_json}
use Rattle.fed_wire.proofs.texts.packet_in_text.Goals as goal

pub returns-in-Ok : goal.returns-in-Ok
returns-in-Ok c = value_read c.args.bytes.now (view c.in-Ok.value) c.packet.result (text_some c.args.bytes.now (view c.in-Ok.value) c.in-Ok.ensures.ok.0 c.in-Ok.ensures.ok.1) c.packet.ensures

pub returns-in-Err : goal.returns-in-Err
returns-in-Err c n =
    let other : ¬ IsMemory c.in-Err.error = λ m. n (c.unread.ensures.memory.1 m) in
    let P : WireFault → Result PacketValue WireFault = λ e. Err e in
    ap P (c.unread.ensures.text other) ∙ not_json c.args.bytes.now (text_none c.args.bytes.now (λ utf8. c.in-Err.ensures.err other utf8))
