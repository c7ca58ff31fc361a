use Rattle.fed_board.specs.Board.{IsKnownJob}
use Rattle.fed_delta.proofs.PartLaws.{IsLeft}
use Rattle.fed_delta.proofs.parts.are_known_jobs.Given as goal

abbrev pub invariant-loop-id : goal.invariant-loop-id
invariant-loop-id l = IsLeft (IsKnownJob l.version) l.jobs l.id-iterator
