use Rattle.fed_replica.specs.State.{state_of}
use Rattle.fed_site.proofs.Commands.{one_more}
use Rattle.fed_site.proofs.acts.ask_each.Goals as goal

pub loop-index-preserved : goal.loop-index-preserved
loop-index-preserved c =
    let both = c.in_ok-all.ensures in
    record {
      site = c.in_ok-last.ensures.site;
      done = one_more c.args.roster.now c.args.who.now (state_of c.args.replica.now) c.args.commands.now c.loop-index.index c.index-commands-index.result c.loop-index.replica c.ask.new.replica
          c.loop-index.all c.in_ok-last.last c.in_ok-all.all c.loop-index-test.true c.index-commands-index.is both.text both.kept both.complaint both.begun c.loop-index.invariant.done c.in_ok-last.ensures.done;
    }
