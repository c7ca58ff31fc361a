use Rattle.std.proofs.Common.{take}
use Rattle.fed_record.specs.Record.{AreCovered}
use Rattle.fed_record.proofs.job_parts.covers_pairs.Given as goal

abbrev pub invariant-loop-pair : goal.invariant-loop-pair
invariant-loop-pair g l = AreCovered l.version (take l.pair-index l.pairs)
