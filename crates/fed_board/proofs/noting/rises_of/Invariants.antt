use Rattle.std.proofs.Common.{◌⊎◌}
use Rattle.fed_stamp.specs.Stamp.{StampValue}
use Rattle.fed_lattice.specs.Sets.{Has}
use Rattle.fed_record.specs.JobRecord.{JobRecordValue}
use Rattle.fed_board.specs.Changes.{AreAmong}
use Rattle.fed_board.proofs.noting.rises_of.Given as goal

abbrev pub invariant-loop-job : goal.invariant-loop-job
invariant-loop-job l = (e : StampValue × JobRecordValue) → Has l.records e → Has l.job-iterator e ⊎ AreAmong l.rises.items l.jobs e.0 e.1
