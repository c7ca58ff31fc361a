use Rattle.fed_wire.proofs.TextLaws.{gives_found, gives_only}
use Rattle.fed_wire.proofs.texts.read.Goals as goal

pub returns-clause-found : goal.returns-clause-found
returns-clause-found c = gives_found c.args.bytes.now c.packet_in_text.result c.packet_in_text.ensures

pub returns-clause-only : goal.returns-clause-only
returns-clause-only c = gives_only c.args.bytes.now c.packet_in_text.result c.packet_in_text.ensures
