use Rattle.std.specs.List.{AllByRecursion, filter_map}
use Rattle.fed_easy.specs.Promises.{IsSized}
use Rattle.fed_easy.proofs.BoardEntries.{entry_waiting}
use Rattle.fed_easy.proofs.laws.waiting_jobs_are_sized.Given as goal

-- all jobs are sized where those that are left are
abbrev pub invariant-loop-id : goal.invariant-loop-id
invariant-loop-id l =
    AllByRecursion (IsSized l.capacity) (filter_map (entry_waiting l.site l.capacity) l.id-iterator)
    → AllByRecursion (IsSized l.capacity) (filter_map (entry_waiting l.site l.capacity) l.board.jobs)
