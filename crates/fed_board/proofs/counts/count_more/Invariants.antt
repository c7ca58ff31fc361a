use Rattle.std.proofs.Common.{◌≡◌, length, drop}
use Rattle.std.specs.Map.{keys_of}
use Rattle.fed_board.specs.Counts.{AreCounting}
use Rattle.fed_board.proofs.counts.count_more.Given as goal

abbrev pub invariant-loop-id : goal.invariant-loop-id
invariant-loop-id g l = (length l.more ≡ 16) × AreCounting l.more (drop l.id-index l.ids) (keys_of l.table)
