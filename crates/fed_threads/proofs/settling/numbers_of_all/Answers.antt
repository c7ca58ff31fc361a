use Rattle.std.proofs.Common.{◌<◌, length, length-set, ◌∙◌, arith}
use Rattle.fed_threads.proofs.Numbers.{next_before, next_after}
use Rattle.fed_threads.proofs.settling.numbers_of_all.Goals as goal

pub loop-site-preserved : goal.loop-site-preserved
loop-site-preserved c =
    let inside : c.loop-site.site < length c.loop-site.next = omega (arith, c.loop-site.invariant.count) in
    record {
      count = length-set c.loop-site.next c.loop-site.site _ ∙ c.loop-site.invariant.count;
      before = next_before c.loop-site.next c.args.placed.now c.loop-site.site inside c.loop-site.invariant.before;
      after = next_after c.loop-site.next c.args.placed.now c.loop-site.site inside c.loop-site.invariant.after;
    }
