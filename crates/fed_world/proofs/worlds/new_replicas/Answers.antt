use Rattle.std.proofs.Common.{◌<◌, arith}
use Rattle.fed_world.proofs.KeptLaws.{replica_more}
use Rattle.fed_world.proofs.worlds.new_replicas.Goals as goal

pub loop-number-preserved : goal.loop-number-preserved
loop-number-preserved c =
    let small : c.loop-number.number < 16 = omega (arith, c.len-number-end.ensures.roster.at_most) in
    replica_more c.loop-number.number c.unwrap-site.result c.new.result c.loop-number.replicas.items c.push.new.self.items c.new-in-loop-number.result c.loop-number.invariant small
    c.unwrap-site.ensures c.new.ensures c.new-in-loop-number.ensures.site c.new-in-loop-number.ensures.stands c.new-in-loop-number.ensures.heard c.in_ok-push.ensures.items
