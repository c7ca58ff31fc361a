use Rattle.std.specs.List.{filter_map}
use Rattle.std.proofs.Common.{◌≡◌, ◌++◌, All}
use Rattle.fed_easy.specs.Promises.{IsSized}
use Rattle.fed_easy.proofs.BoardEntries.{entry_waiting}
use Rattle.fed_easy.proofs.queues.waiting_jobs.Given as goal

abbrev pub invariant-loop-id : goal.invariant-loop-id
invariant-loop-id l = record {
  waiting : l.waiting.items ++ filter_map (entry_waiting l.site l.capacity) l.id-iterator ≡ filter_map (entry_waiting l.site l.capacity) l.board.jobs;
  sized : All (IsSized l.capacity) l.waiting.items;
}
