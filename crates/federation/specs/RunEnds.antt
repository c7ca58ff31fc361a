-- How a run of the program ends.
use Rattle.std.specs.Prelude.{ℕ, Result, Ok, Err}
use Rattle.fed_main.specs.declared.fault.RunFault.{RunFault}
use Rattle.fed_main.specs.declared.fault.RunFault.TheVariants.{Line, Read, Write, NoMemory, Close, Behind}
use Rattle.federation.specs.declared.run_ends.RunEnd.{RunEnd}
use Rattle.federation.specs.declared.run_ends.RunEnd.TheVariants.{Ran, UnreadableLine, Usage, Failed}

-- by how a run ended
abbrev pub run_end : Result (Unit {0}) RunFault → RunEnd
run_end (Ok done) = Ran
run_end (Err (Line number)) = UnreadableLine number
run_end (Err Read) = Failed
run_end (Err Write) = Failed
run_end (Err NoMemory) = Failed
run_end (Err (Close fault)) = Failed
run_end (Err Behind) = Failed

-- the program's status
abbrev pub status_of : RunEnd → ℕ
status_of Ran = 0
status_of (UnreadableLine number) = 1
status_of Usage = 2
status_of Failed = 3
