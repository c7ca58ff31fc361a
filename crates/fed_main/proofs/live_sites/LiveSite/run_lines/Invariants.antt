use Rattle.std.proofs.Common.{map, take}
use Rattle.fed_script.specs.LineView.{said_by}
use Rattle.fed_main.specs.Thread.{reads, Answers, ThreadSays}
use Rattle.fed_main.proofs.live_sites.LiveSite.run_lines.Given as goal

abbrev pub invariant-loop-line : goal.invariant-loop-line
invariant-loop-line g l =
    Answers (ThreadSays l.self.sites.now.roster.now l.self.here (map said_by (take l.line-index l.lines))) (reads l.fn.log) (reads l.log)
