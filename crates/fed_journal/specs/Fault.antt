-- Why a journal fails.
use Rattle.std.specs.Prelude.{◌≡◌, ◌<◌, ℕ, ◌^◌, Bool, true, false, List, ◌∷◌, Result, Ok, Err, ⊤}
use Rattle.std.specs.IoError.{error_kind}
use Rattle.std.specs.declared.io.Error.{Error}
use Rattle.std.specs.declared.io.ErrorKind.{ErrorKind}
use Rattle.std.specs.declared.io.ErrorKind.TheVariants.{OutOfMemory}
use Rattle.fed_journal.specs.Lines.{recovered}
use Rattle.fed_journal.specs.declared.faults.DeviceFault.{DeviceFault}
use Rattle.fed_journal.specs.declared.faults.DeviceFault.TheVariants as device
use Rattle.fed_journal.specs.declared.faults.OpenFault.{OpenFault}
use Rattle.fed_journal.specs.declared.faults.OpenFault.TheVariants as opening
use Rattle.fed_journal.specs.declared.faults.JournalFault.{JournalFault}
use Rattle.fed_journal.specs.declared.faults.JournalFault.TheVariants as journal

-- the most bytes that a journal may have
abbrev pub most_bytes : ℕ
most_bytes = 2 ^ 60

abbrev pub number_of : JournalFault → ℕ
number_of journal.NoMemory = 1
number_of (journal.Failed error) = 2
number_of (journal.Damaged line) = 3
number_of journal.Full = 4
number_of (journal.InDoubt error) = 5

-- whether the file may have the group that was to be added
abbrev pub is_in_doubt : JournalFault → Bool
is_in_doubt (journal.InDoubt error) = true
is_in_doubt _ = false

abbrev pub device_number_of : DeviceFault → ℕ
device_number_of device.NoMemory = 1
device_number_of (device.Failed error) = 2

-- what a journal says where its device failed
abbrev pub fault_of : DeviceFault → JournalFault
fault_of device.NoMemory = journal.NoMemory
fault_of (device.Failed error) = journal.Failed error

-- why a file isn't opened where the system fails with this error: want of memory is told as such
abbrev pub open_fault_by : ErrorKind → Error → OpenFault
open_fault_by OutOfMemory error = opening.NoMemory
open_fault_by _ error = opening.Failed error

abbrev pub open_fault_of : Error → OpenFault
open_fault_of error = open_fault_by (error_kind error) error

-- what a device says where a call on its file is answered so
abbrev pub told : {T : Type 0} → Result T Error → Result T DeviceFault
told (Ok value) = Ok value
told (Err error) = Err (device.Failed error)

-- By the disk's errors before a call and now, the newest first: the call tells the one error that the disk has had since, or the disk has had none.
abbrev pub Tells : {T : Type 0} → List Error → List Error → Result T DeviceFault → Type 0
Tells before now (Ok value) = now ≡ before
Tells before now (Err device.NoMemory) = now ≡ before
Tells before now (Err (device.Failed error)) = now ≡ error ∷ before

-- a fault that is the file's names the line that is damaged
abbrev pub IsDamage : List ℕ → JournalFault → Type 0
IsDamage file journal.NoMemory = ⊤
IsDamage file (journal.Failed error) = ⊥
IsDamage file (journal.Damaged line) = recovered file ≡ Err line
IsDamage file journal.Full = ⊥
IsDamage file (journal.InDoubt error) = ⊥

-- Why a gate isn't opened: the disk has had this error, and it is in doubt. Or there was no memory.
abbrev pub StopsGate : List Error → List Error → JournalFault → Type 0
StopsGate before now journal.NoMemory = now ≡ before
StopsGate before now (journal.InDoubt error) = now ≡ error ∷ before
StopsGate before now _ = ⊥

-- Why a group isn't added: the disk has had this error, or the file would have too many bytes. Or there was no memory.
abbrev pub StopsGroup : List Error → List Error → ℕ → JournalFault → Type 0
StopsGroup before now bytes journal.NoMemory = now ≡ before
StopsGroup before now bytes (journal.Failed error) = now ≡ error ∷ before
StopsGroup before now bytes (journal.Damaged line) = ⊥
StopsGroup before now bytes journal.Full = most_bytes < bytes
StopsGroup before now bytes (journal.InDoubt error) = now ≡ error ∷ before

-- Why a file isn't opened: the disk has had this error, or the line of this number is damaged. Or there was no memory.
abbrev pub StopsOpening : List Error → List Error → List ℕ → JournalFault → Type 0
StopsOpening before now file journal.NoMemory = now ≡ before
StopsOpening before now file (journal.Failed error) = now ≡ error ∷ before
StopsOpening before now file (journal.Damaged line) = recovered file ≡ Err line
StopsOpening before now file journal.Full = ⊥
StopsOpening before now file (journal.InDoubt error) = ⊥

-- Why the end of a file isn't repaired: the disk has had this error. Or there was no memory.
abbrev pub StopsRepair : List Error → List Error → JournalFault → Type 0
StopsRepair before now journal.NoMemory = now ≡ before
StopsRepair before now (journal.Failed error) = now ≡ error ∷ before
StopsRepair before now (journal.Damaged line) = ⊥
StopsRepair before now journal.Full = ⊥
StopsRepair before now (journal.InDoubt error) = ⊥

-- Why a journal doesn't take the place of another: the disk has had this error, or the file would have too many bytes. Or there was no memory.
abbrev pub StopsReplacing : List Error → List Error → ℕ → JournalFault → Type 0
StopsReplacing before now bytes journal.NoMemory = now ≡ before
StopsReplacing before now bytes (journal.Failed error) = now ≡ error ∷ before
StopsReplacing before now bytes (journal.Damaged line) = ⊥
StopsReplacing before now bytes journal.Full = most_bytes < bytes
StopsReplacing before now bytes (journal.InDoubt error) = ⊥
