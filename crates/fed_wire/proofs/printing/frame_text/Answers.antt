use Rattle.serde_json.specs.View.{view}
use Rattle.fed_wire.specs.Printed.{without_jobs}
use Rattle.fed_wire.proofs.PlainLaws.{packet_written}
use Rattle.fed_wire.proofs.printing.frame_text.Goals as goal

pub returns-clause-text : goal.returns-clause-text
returns-clause-text c = (packet_written (view c.in_ok-value.value) (without_jobs c.args.packet.now) c.in_ok-to_vec.field-0.items c.in_ok-value.ensures c.in_ok-to_vec.ensures.text c.in_ok-to_vec.ensures.utf8 c.in_ok-to_vec.ensures.order c.in_ok-to_vec.ensures.reads_back).0

pub returns-clause-printed : goal.returns-clause-printed
returns-clause-printed c = (packet_written (view c.in_ok-value.value) (without_jobs c.args.packet.now) c.in_ok-to_vec.field-0.items c.in_ok-value.ensures c.in_ok-to_vec.ensures.text c.in_ok-to_vec.ensures.utf8 c.in_ok-to_vec.ensures.order c.in_ok-to_vec.ensures.reads_back).1
