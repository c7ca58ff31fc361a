use Rattle.fed_threads.proofs.Numbers.{rows_started}
use Rattle.fed_threads.proofs.course.no_numbers.Goals as goal

pub loop-site-preserved : goal.loop-site-preserved
loop-site-preserved c = rows_started c.loop-site._site c.loop-site.numbers.items c.push.new.self.items c.new.result c.loop-site.invariant c.new.ensures.items c.in_ok-push.ensures.items
