use Rattle.std.proofs.Common.{length, sym, ◌∙◌}
use Rattle.fed_model.specs.Run.{run}
use Rattle.fed_world.proofs.SentLaws.{texts_length}
use Rattle.fed_world.proofs.worlds.World.made.Goals as goal

pub returns : goal.returns
returns c =
    let w = run (length c.self.inside.replicas.items) c.self.inside.events.items in
    rw (← c.self.view_is) (c.len.ensures ∙ c.self.inside.texts.ok.0 ∙ sym (texts_length w.packets c.self.inside.texts.items c.self.invariant.texts))
