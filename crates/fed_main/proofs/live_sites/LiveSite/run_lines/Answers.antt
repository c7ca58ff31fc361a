use Rattle.std.proofs.Common.{◌∙◌, sym}
use Rattle.fed_script.specs.LineView.{said_by}
use Rattle.fed_main.specs.Thread.{asks, reads, LineSays}
use Rattle.fed_main.proofs.Threads.{Answers-asked, Answers-passed}
use Rattle.fed_main.proofs.live_sites.LiveSite.run_lines.Goals as goal
use Rattle.fed_main.proofs.live_sites.LiveSite.run_lines.Goals.{then-asks+in_ok-run_line, else-asks}

pub loop-line-preserved : goal.loop-line-preserved
loop-line-preserved g c = elim c.if-asks.branch [
  | then-asks+in_ok-run_line w ↦ rw w.log-is
      (Answers-asked said_by (asks c.args.self.now.here) c.args.lines.now c.loop-line.line-index c.line-item.result c.loop-line-test.true c.line-item.is
      (LineSays c.args.self.now.sites.now.roster.now c.args.self.now.here) (reads c.args.log.now) (reads c.loop-line.log) (reads w.run_line.new.log)
      (sym c.asks.ensures ∙ w.if-asks.true) c.loop-line.invariant w.in_ok-run_line.ensures)
  | else-asks w ↦ rw w.log-is
      (Answers-passed said_by (asks c.args.self.now.here) c.args.lines.now c.loop-line.line-index c.line-item.result c.loop-line-test.true c.line-item.is
      (LineSays c.args.self.now.sites.now.roster.now c.args.self.now.here) (reads c.args.log.now) (reads c.loop-line.log)
      (sym c.asks.ensures ∙ w.if-asks.false) c.loop-line.invariant)
]
