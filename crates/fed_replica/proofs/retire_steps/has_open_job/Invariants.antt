use Rattle.std.specs.List.{list_any}
use Rattle.std.proofs.Common.{◌≡◌}
use Rattle.fed_replica.specs.Retiring.{is_open_job}
use Rattle.fed_replica.proofs.retire_steps.has_open_job.Given as goal

abbrev pub invariant-loop-id : goal.invariant-loop-id
invariant-loop-id l = list_any (is_open_job l.here l.first l.last) l.id-iterator ≡ list_any (is_open_job l.here l.first l.last) l.board.jobs
