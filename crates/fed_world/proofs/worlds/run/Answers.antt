use Rattle.std.proofs.Common.{length}
use Rattle.fed_world.proofs.KeptLaws.{world_more, outcomes_more}
use Rattle.fed_world.proofs.worlds.run.Goals as goal

pub loop-event-preserved : goal.loop-event-preserved
loop-event-preserved c = record {
  world = world_more (length c.args.roster.now) c.args.events.now c.loop-event.event-index c.event-item.result c.loop-event-test.true c.event-item.is
      c.loop-event.world c.step.new.self c.loop-event.invariant.world c.in_ok-outcome.ensures.events;
  outcomes = outcomes_more (length c.args.roster.now) c.args.events.now c.loop-event.event-index c.event-item.result c.loop-event-test.true c.event-item.is
      c.loop-event.world c.loop-event.outcomes.items c.extend_from_slice.new.self.items c.in_ok-outcome.outcome c.loop-event.invariant.world c.loop-event.invariant.outcomes
      c.in_ok-outcome.ensures.outcome c.in_ok-extend_from_slice.ensures.items;
}
