use Rattle.std.proofs.Common.{◌≡◌, map, take}
use Rattle.serde_json.specs.View.{view}
use Rattle.fed_board.specs.Board.{board_reads}
use Rattle.fed_looks.specs.JobObject.{objects_of_jobs}
use Rattle.fed_looks.proofs.job_lines.job_objects.Given as goal

abbrev pub invariant-loop-id : goal.invariant-loop-id
invariant-loop-id l = map view l.values.items ≡ objects_of_jobs l.roster (board_reads l.board) (take l.id-index l.jobs)
