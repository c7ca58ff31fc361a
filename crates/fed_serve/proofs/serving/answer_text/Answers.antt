use Rattle.fed_serve.proofs.Stops.{stops_at}
use Rattle.fed_serve.proofs.serving.answer_text.Goals as goal

pub returns-clause-stopped : goal.returns-clause-stopped
returns-clause-stopped g c =
    let w = g.W.Write.contents in
    stops_at c.args.frames g.D.Device.seen g.D.Device.errors g.D.Device.moment g.D.Device.left_since c.args.home.now c.answers_to.new.home c.args.text.now (w c.args.writer.now) (w c.stop.new.writer)
    c.in-Err.fault c.stop.result c.requires.whole c.stop.ensures c.in-Err.ensures.nothing c.in-Err.ensures.fault
