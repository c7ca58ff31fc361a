use Rattle.std.proofs.Common.{◌≡◌, length}
use Rattle.std.specs.Map.{keys_of}
use Rattle.fed_board.specs.Counts.{AreCounting}
use Rattle.fed_board.proofs.counts.count_ids.Given as goal

abbrev pub invariant-loop-id : goal.invariant-loop-id
invariant-loop-id g l = (length l.counts ≡ 16) × AreCounting l.counts (keys_of l.id-iterator) (keys_of l.table)
