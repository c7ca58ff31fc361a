use Rattle.std.proofs.Common.{string_bytes}
use Rattle.fed_qstat.specs.Layout.{lines_in}
use Rattle.fed_qstat.proofs.BoardJobs.{IsUnderWay}
use Rattle.fed_qstat.proofs.listings.list_all.Given as goal

abbrev pub invariant-loop-id : goal.invariant-loop-id
invariant-loop-id l = IsUnderWay (lines_in l.layout l.roster) l.board.jobs (string_bytes l.text) l.id-iterator
