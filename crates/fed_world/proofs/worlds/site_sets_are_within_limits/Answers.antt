use Rattle.std.proofs.Common.{length}
use Rattle.fed_theory.proofs.PacketLimits.{site_within}
use Rattle.fed_world.proofs.worlds.site_sets_are_within_limits.Goals as goal

pub returns : goal.returns
returns c =
    rw (← c.world.view_is) (site_within (length c.world.inside.replicas.items) c.world.inside.events.items c.world.invariant.few c.world.invariant.ranged c.args.site)
