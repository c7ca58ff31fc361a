use Rattle.std.proofs.Common.{◌≡◌, string_bytes, take}
use Rattle.fed_board.specs.Board.{board_reads}
use Rattle.fed_looks.specs.JobObject.{lines_of_jobs}
use Rattle.fed_looks.proofs.job_lines.named_lines.Given as goal

abbrev pub invariant-loop-id : goal.invariant-loop-id
invariant-loop-id l = string_bytes l.text ≡ lines_of_jobs l.roster (board_reads l.board) (take l.id-index l.ids)
