use Rattle.std.proofs.Common.{take}
use Rattle.fed_main.specs.Thread.{reads, Answers, Does, Each}
use Rattle.fed_main.proofs.live_sites.LiveSite.act.Given as goal

abbrev pub invariant-loop-command : goal.invariant-loop-command
invariant-loop-command g l =
    Answers (Each (Does l.self.sites.now.roster.now l.self.here l.who) (take l.command-index l.commands)) (reads l.fn.log) (reads l.log)
