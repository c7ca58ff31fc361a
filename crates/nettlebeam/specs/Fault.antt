-- What the program tells where what it calls fails.
use Rattle.std.specs.Prelude.{◌≡◌, ◌≢◌}
use Rattle.std.specs.IoError.{error_kind}
use Rattle.std.specs.declared.io.Error.{Error}
use Rattle.std.specs.declared.io.ErrorKind.TheVariants.{NotFound}
use Rattle.fed_journal.specs.declared.faults.DeviceFault.{DeviceFault}
use Rattle.fed_journal.specs.declared.faults.DeviceFault.TheVariants as device
use Rattle.fed_journal.specs.declared.faults.JournalFault.{JournalFault}
use Rattle.fed_journal.specs.declared.faults.OpenFault.{OpenFault}
use Rattle.fed_journal.specs.declared.faults.OpenFault.TheVariants as opening
use Rattle.fed_home.specs.Fault.{fault_of}
use Rattle.fed_home.specs.declared.faults.HomeFault.{HomeFault}
use Rattle.fed_home.specs.declared.faults.HomeFault.TheVariants as home
use Rattle.fed_serve.specs.declared.faults.ServeFault.{ServeFault}
use Rattle.fed_serve.specs.declared.faults.ServeFault.TheVariants as serve
use Rattle.fed_serve.specs.declared.openings.NotCompacted.{NotCompacted}
use Rattle.fed_serve.specs.declared.openings.NotCompacted.TheVariants as cause
use Rattle.fed_serve.specs.declared.openings.Stop.{Stop}
use Rattle.fed_serve.specs.declared.openings.Stop.TheVariants as stop
use Rattle.nettlebeam.specs.declared.faults.Fault.{Fault}
use Rattle.nettlebeam.specs.declared.faults.Fault.TheVariants as told

-- an error of the system where a journal's file is opened: where there is no file, there is no site
abbrev pub IsOfError : Error → Fault → Type 0
IsOfError error fault = (error_kind error ≡ NotFound → fault ≡ told.NoSite) × (error_kind error ≢ NotFound → fault ≡ told.Home (home.Failed error))

abbrev pub IsOfOpening : OpenFault → Fault → Type 0
IsOfOpening opening.NoMemory fault = fault ≡ told.Home home.NoMemory
IsOfOpening opening.InUse fault = fault ≡ told.InUse
IsOfOpening (opening.Failed error) fault = IsOfError error fault

abbrev pub of_device : DeviceFault → Fault
of_device device.NoMemory = told.Home home.NoMemory
of_device (device.Failed error) = told.Home (home.Failed error)

abbrev pub of_journal : JournalFault → Fault
of_journal fault = told.Home (fault_of fault)

-- where the disk failed, the journal may be the old one or the compacted one
abbrev pub of_compacting : HomeFault → Fault
of_compacting (home.Failed error) = told.Replaced error
of_compacting fault = told.Home fault

abbrev pub of_cause : NotCompacted → Fault
of_cause (cause.Refused error) = told.NotCompacted error
of_cause cause.Unread = told.Uncompactable
of_cause (cause.Stopped fault) = of_compacting fault

abbrev pub of_serving : ServeFault → Fault
of_serving (serve.Home fault) = told.Home fault
of_serving (serve.Read error) = told.Input error
of_serving (serve.Write error) = told.Output error
of_serving (serve.NotKept fault) = told.Home fault

abbrev pub of_stop : Stop Fault → Fault
of_stop (stop.Served fault) = of_serving fault
of_stop (stop.Unopened fault) = fault

-- a file that is to keep a journal
abbrev pub of_copy : DeviceFault → Fault
of_copy device.NoMemory = told.Home home.NoMemory
of_copy (device.Failed error) = told.Kept error
