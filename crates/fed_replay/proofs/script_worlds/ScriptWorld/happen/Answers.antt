use Rattle.std.specs.Cow.{cow_str_bytes}
use Rattle.fed_replay.proofs.ScriptWorlds.{happened}
use Rattle.fed_replay.proofs.script_worlds.ScriptWorld.happen.Goals as goal

pub returns : goal.returns
returns c = rw (← c.self.view_is) (happened c.answer.result c.step-outcome.result cow_str_bytes c.self.inside.roster c.self.inside.world c.step-outcome.new.self c.args.event.now c.self.invariant.0 c.answer.ensures c.step-outcome.ensures.outcome c.step-outcome.ensures.events)
