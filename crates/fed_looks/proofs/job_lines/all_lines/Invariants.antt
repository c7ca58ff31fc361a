use Rattle.std.proofs.Common.{◌≡◌, ◌++◌, string_bytes}
use Rattle.fed_looks.proofs.JobLaws.{known_from}
use Rattle.fed_looks.proofs.job_lines.all_lines.Given as goal

abbrev pub invariant-loop-id : goal.invariant-loop-id
invariant-loop-id l = string_bytes l.text ++ known_from l.roster l.id-iterator ≡ known_from l.roster l.board.jobs
