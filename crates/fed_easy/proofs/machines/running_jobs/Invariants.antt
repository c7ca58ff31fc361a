use Rattle.std.specs.List.{filter_map}
use Rattle.std.proofs.Common.{◌≡◌, ◌++◌}
use Rattle.fed_easy.proofs.BoardEntries.{entry_running}
use Rattle.fed_easy.proofs.machines.running_jobs.Given as goal

abbrev pub invariant-loop-job : goal.invariant-loop-job
invariant-loop-job l = l.entries.items ++ filter_map (entry_running l.site) l.job-iterator ≡ filter_map (entry_running l.site) l.board.jobs
