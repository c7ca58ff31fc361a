use Rattle.std.proofs.Common.{◌≡◌, ◌++◌, filter}
use Rattle.fed_board.specs.Changes.{is_later}
use Rattle.fed_board.proofs.changed_jobs.all_changed.Given as goal

abbrev pub invariant-loop-job : goal.invariant-loop-job
invariant-loop-job l = l.changed ++ filter (λ e. is_later l.need e.1) l.job-iterator ≡ filter (λ e. is_later l.need e.1) l.jobs
