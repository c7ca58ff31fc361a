use Rattle.std.specs.List.{filter_map}
use Rattle.std.proofs.Common.{◌≡◌, ◌≤◌, ◌++◌, List, length}
use Rattle.fed_stamp.specs.Indexes.{least_index}
use Rattle.fed_easy.specs.declared.machines.Running.{Running}
use Rattle.fed_easy.specs.declared.machines.TheConstants.{MAX_RUNNING}
use Rattle.fed_easy.specs.Machine.{is_bad}
use Rattle.fed_easy.proofs.BoardEntries.{entry_running}
use Rattle.fed_easy.proofs.machines.first_fault_on.Given as goal

abbrev pub invariant-loop-job : goal.invariant-loop-job
invariant-loop-job l = (running : List Running)
    × (running ++ filter_map (entry_running l.site) l.job-iterator ≡ filter_map (entry_running l.site) l.board.jobs)
    × (l.count ≡ length running) × (l.count ≤ MAX_RUNNING) × (l.bad ≡ least_index (is_bad running) (length running))
