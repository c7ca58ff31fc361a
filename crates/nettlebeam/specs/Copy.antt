-- What a compaction does to the journal that was copied before.
use Rattle.std.specs.Prelude.{Bool, true, false, Result, Ok, Err}
use Rattle.fed_home.specs.declared.compactions.Compaction.{Compaction}
use Rattle.fed_home.specs.declared.compactions.Compaction.TheVariants.{Done}
use Rattle.fed_home.specs.declared.faults.HomeFault.{HomeFault}
use Rattle.fed_home.specs.declared.faults.HomeFault.TheVariants.{Failed}

-- It is replaced, or may be where the disk failed as its name was to be given away. Else nothing is done.
abbrev pub may_be_replaced : Result Compaction HomeFault → Bool
may_be_replaced (Ok Done) = true
may_be_replaced (Err (Failed error)) = true
may_be_replaced came = false
