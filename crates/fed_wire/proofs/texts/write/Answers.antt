use Rattle.fed_wire.proofs.PlainLaws.{text_back}
use Rattle.fed_wire.proofs.texts.write.Goals as goal

pub returns-clause-again : goal.returns-clause-again
returns-clause-again c = text_back c.args.packet.now c.in_ok-packet_text.field-0.items c.in_ok-packet_text.ensures.text c.in_ok-packet_text.ensures.printed
