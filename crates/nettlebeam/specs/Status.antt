-- The statuses of the program.
use Rattle.std.specs.Prelude.{ℕ}
use Rattle.nettlebeam.specs.declared.faults.Fault.{Fault}
use Rattle.nettlebeam.specs.declared.faults.Fault.TheVariants.{Roster}

-- 2 where the program's own words are at fault, and 3 for all else
abbrev pub fault_status : Fault → ℕ
fault_status Roster = 2
fault_status fault = 3
