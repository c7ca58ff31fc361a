use Rattle.std.proofs.lemmas.Map.Iter.{rest_more}
use Rattle.std.specs.Map.Iter.{deref_pair}
use Rattle.fed_board.proofs.ChangeLists.{among_by, among_more, among_end}
use Rattle.fed_board.proofs.noting.rises_of.Goals as goal

pub loop-job-preserved : goal.loop-job-preserved
loop-job-preserved c =
    among_more c.loop-job.rises.items c.add_rises.new.rises.items c.args.jobs.now c.args.records.now c.loop-job.job-iterator c.next.new.self c.in-Some.job.now c.in-Some.record.now
    c.in_ok-add_rises.ensures.kept c.loop-job.invariant (rest_more deref_pair _ _ _ _ c.in-Some.is c.next.ensures.steps)
    (among_by c.add_rises.new.rises.items c.args.jobs.now c.in-Some.job.now c.in-Some.record.now _ _ c.touched_at.ensures c.touched.ensures c.in_ok-add_rises.ensures.added)

pub returns : goal.returns
returns c = among_end c.loop-job.rises.items c.args.jobs.now c.args.records.now c.loop-job.job-iterator c.loop-job.invariant c.in-None.ensures.steps.0
