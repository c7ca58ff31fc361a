use Rattle.std.proofs.Common.{string_bytes, take}
use Rattle.fed_board.specs.Board.{board_reads}
use Rattle.fed_qstat.specs.Layout.{lines_in}
use Rattle.fed_qstat.proofs.BoardJobs.{AreWritten}
use Rattle.fed_qstat.proofs.listings.list_named.Given as goal

abbrev pub invariant-loop-id : goal.invariant-loop-id
invariant-loop-id l = AreWritten (lines_in l.layout l.roster) (board_reads l.board) (string_bytes l.text) (take l.id-index l.id-items)
