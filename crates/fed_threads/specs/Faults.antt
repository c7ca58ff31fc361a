-- The numbers of the faults.
use Rattle.std.specs.Prelude.{ℕ}
use Rattle.fed_threads.specs.declared.fault.CallFault.{CallFault}
use Rattle.fed_threads.specs.declared.fault.CallFault.TheVariants as Call
use Rattle.fed_threads.specs.declared.fault.CloseFault.{CloseFault}
use Rattle.fed_threads.specs.declared.fault.CloseFault.TheVariants as Close

abbrev pub number_of_call : CallFault → ℕ
number_of_call Call.NoSite = 1
number_of_call (Call.Behind seen found version) = 2
number_of_call Call.NoMemory = 3

abbrev pub number_of_close : CloseFault → ℕ
number_of_close (Close.Strange seat place) = 1
number_of_close (Close.Twice site index) = 2
number_of_close (Close.Unclaimed site index) = 3
number_of_close (Close.NoOrder next) = 4
number_of_close (Close.Differs event) = 5
number_of_close Close.NoMemory = 6
