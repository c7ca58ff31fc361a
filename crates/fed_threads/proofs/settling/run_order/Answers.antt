use Rattle.std.proofs.Common.{◌≡◌, get_or, refl, true}
use Rattle.fed_threads.proofs.Courses.{run_more}
use Rattle.fed_threads.proofs.settling.run_order.Goals as goal

pub loop-k-preserved : goal.loop-k-preserved
loop-k-preserved c =
    let found = rw (c.deref.ensures.value, c.next.ensures) at c.in-Some.ensures.lookup in
    let went : c.in_ok-run.field-0 ≡ true = c.if-not-branch.false in
    run_more c.args.journals.now c.args.sites.now c.loop-k.k c.loop-k.course (get_or c.args.sites.now c.loop-k.k 0) c.loop-k.invariant c.loop-k-test.true refl
    c.index-journals-site.result c.if-site-journals.false c.index-journals-site.is c.in-Some.entry.now found.3.0 found.1
    c.run.new.self (c.in_ok-run.ensures.agrees.0 went) (c.in_ok-run.ensures.sites went) (c.in_ok-run.ensures.point went)
