use Rattle.std.proofs.Common.{◌≡◌, length, take}
use Rattle.fed_model.specs.Run.{outcomes}
use Rattle.fed_world.proofs.worlds.run.Given as goal

abbrev pub invariant-loop-event : goal.invariant-loop-event
invariant-loop-event l = record {
  world : l.world ≡ record { sites = length l.roster; events = take l.event-index l.events };
  outcomes : l.outcomes.items ≡ outcomes (length l.roster) (take l.event-index l.events);
}
