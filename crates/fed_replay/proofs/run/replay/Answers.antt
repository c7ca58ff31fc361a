use Rattle.fed_replay.proofs.Written.{EndsAs-flushed, EndsAs-unread, IfSome-all, IfSome-read, flushed_read}
use Rattle.fed_replay.specs.Ends.{EndsAs}
use Rattle.fed_replay.proofs.run.replay.Goals as goal

pub returns-in-Err-clause-replays : goal.returns-in-Err-clause-replays
returns-in-Err-clause-replays g c = IfSome-all _ _ (λ input. EndsAs-unread _ input _ c.in-Err.ensures.errors)

pub returns-clause-replays : goal.returns-clause-replays
returns-clause-replays g c =
    IfSome-read (g.R.Read.remaining c.args.reader.now) c.in-Ok.script.items (λ input. EndsAs (g.W.Write.contents c.args.writer.now) (g.W.Write.contents c.flush.new.self) input c.ended.result) c.in-Ok.ensures.bytes
    (EndsAs-flushed (g.W.Write.contents c.args.writer.now) (g.W.Write.contents c.run_script-ran.new.writer) (g.W.Write.contents c.flush.new.self) c.in-Ok.script.items c.run_script-ran.result c.ended.result c.flush.result
    (rw c.deref.ensures.value at c.run_script-ran.ensures.ends) c.flush.ensures.bytes c.ended.ensures.ok c.ended.ensures.err)

pub returns-clause-read : goal.returns-clause-read
returns-clause-read g c = λ read. absurd (flushed_read c.run_script-ran.result c.ended.result c.flush.result c.run_script-ran.ensures.read c.ended.ensures.ok c.ended.ensures.err read)
