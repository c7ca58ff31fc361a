use Rattle.std.specs.Map.Iter.{deref_pair}
use Rattle.std.proofs.lemmas.Map.Iter.{rest_all}
use Rattle.fed_easy.proofs.BoardEntries.{running_done}
use Rattle.fed_easy.proofs.machines.running_jobs.Goals as goal

pub returns : goal.returns
returns c =
    running_done c.args.board.now c.jobs-job-items.ensures.ascending c.jobs-job-items.ensures.ids c.args.site c.loop-job.entries.items c.loop-job.job-iterator c.loop-job.invariant
    (rest_all deref_pair _ _ _ c.in-None.is c.next.ensures.steps)
