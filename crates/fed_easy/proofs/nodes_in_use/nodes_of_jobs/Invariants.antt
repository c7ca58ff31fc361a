use Rattle.std.specs.List.{filter_map}
use Rattle.std.proofs.Common.{◌≡◌, ◌≤◌, ◌+◌, ◌-◌, ◌^◌, min}
use Rattle.fed_easy.specs.Machine.{nodes_of}
use Rattle.fed_easy.proofs.BoardEntries.{entry_running}
use Rattle.fed_easy.proofs.nodes_in_use.nodes_of_jobs.Given as goal

abbrev pub invariant-loop-job : goal.invariant-loop-job
invariant-loop-job l =
    (l.used ≤ 2 ^ 64 - 1)
    × (min (l.used + nodes_of (filter_map (entry_running l.site) l.job-iterator)) (2 ^ 64 - 1)
    ≡ min (nodes_of (filter_map (entry_running l.site) l.board.jobs)) (2 ^ 64 - 1))
