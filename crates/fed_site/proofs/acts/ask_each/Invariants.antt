use Rattle.std.proofs.Common.{◌≡◌, take}
use Rattle.fed_site.specs.Acts.{DoneAs}
use Rattle.fed_replica.specs.State.{state_of}
use Rattle.fed_site.specs.Says.{after_commands}
use Rattle.fed_site.proofs.acts.ask_each.Given as goal

abbrev pub invariant-loop-index : goal.invariant-loop-index
invariant-loop-index l = record {
  site : l.replica.site ≡ l.here;
  done : DoneAs l.replica l.all (after_commands l.roster (state_of l.fn.replica) l.who 0 (take l.index l.commands));
}
