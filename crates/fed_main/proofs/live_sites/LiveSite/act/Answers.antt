use Rattle.fed_main.specs.Thread.{reads, Does}
use Rattle.fed_main.proofs.Threads.{Answers-all, Answers-none, Answers-turn}
use Rattle.fed_main.proofs.live_sites.LiveSite.act.Goals as goal

pub loop-command-init : goal.loop-command-init
loop-command-init g c = Answers-none (Does c.args.self.now.sites.now.roster.now c.args.self.now.here c.args.who.now) (reads c.args.log.now)

pub loop-command-preserved : goal.loop-command-preserved
loop-command-preserved g c =
    Answers-turn (Does c.args.self.now.sites.now.roster.now c.args.self.now.here c.args.who.now) c.args.commands.now c.loop-command.command-index c.command-item.result
    (reads c.args.log.now) (reads c.loop-command.log) (reads c.ask.new.log) c.loop-command-test.true c.command-item.is c.loop-command.invariant c.in_ok-ask.ensures

pub returns : goal.returns
returns g c =
    Answers-all (Does c.args.self.now.sites.now.roster.now c.args.self.now.here c.args.who.now) c.args.commands.now c.loop-command.command-index
    (reads c.args.log.now) (reads c.loop-command.log) c.loop-command-test.false c.loop-command.invariant
