-- The identifiers of what was read so far, as they are kept.
use Rattle.std.specs.Prelude.{◌≡◌, List}
use Rattle.std.specs.List.Sorted.{IsStrictlySortedBy}
use Rattle.fed_stamp.specs.Stamp.{StampValue}
use Rattle.fed_lattice.specs.Latest.{stamp_cmp}
use Rattle.fed_board.specs.Counts.{AreCounts}
use Rattle.fed_wire.specs.declared.identifiers.Identifiers.{Identifiers}
use Rattle.fed_wire.specs.Packet.{last_of}

-- the identifiers ascend; kept are the last of them, and how many each site gave
pub record AreKept (kept : Identifiers) (ids : List StampValue) : Type 0 where
  pub sorted : IsStrictlySortedBy stamp_cmp ids
  pub last : kept.last ≡ last_of ids
  pub counts : AreCounts kept.counts ids
