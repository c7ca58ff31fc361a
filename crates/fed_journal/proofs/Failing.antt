-- What the steps of an append tell where they fail.
use Rattle.std.proofs.Common.{◌≡◌, ◌∙◌, ◌∷◌, ℕ, List, ap, Err, IsErrOf}
use Rattle.std.specs.declared.io.Error.{Error}
use Rattle.fed_journal.specs.Fault.{StopsGate, StopsGroup, Tells, fault_of}
use Rattle.fed_journal.specs.declared.faults.DeviceFault.{DeviceFault}
use Rattle.fed_journal.specs.declared.faults.DeviceFault.TheVariants as device
use Rattle.fed_journal.specs.declared.faults.JournalFault.{JournalFault}
use Rattle.fed_journal.specs.declared.faults.JournalFault.TheVariants.{NoMemory, Failed, Damaged, Full, InDoubt}

-- a write that failed
pub stops_put : (before now : List Error) (bytes : ℕ) (fault : DeviceFault) → Tells {T = Unit {0}} before now (Err fault) → StopsGroup before now bytes (fault_of fault)
stops_put before now bytes device.NoMemory e = e
stops_put before now bytes (device.Failed error) e = e

-- it isn't that the journal is full
pub not_full : (fault : DeviceFault) → IsErrOf {T = Unit {0}} (Err (fault_of fault)) Full → ⊥
not_full device.NoMemory is = cc
not_full (device.Failed error) is = cc

-- a gate that isn't opened, behind a write that was done
pub stops_gate : (before mid now : List Error) (bytes : ℕ) (fault : JournalFault) → mid ≡ before → StopsGate mid now fault → StopsGroup before now bytes fault
stops_gate before mid now bytes NoMemory same e = e ∙ same
stops_gate before mid now bytes (Failed error) same e = absurd e
stops_gate before mid now bytes (Damaged line) same e = absurd e
stops_gate before mid now bytes Full same e = absurd e
stops_gate before mid now bytes (InDoubt error) same e = e ∙ ap (λ (errors : List Error). error ∷ errors) same

pub gate_not_full : (before now : List Error) (fault : JournalFault) → StopsGate before now fault → IsErrOf {T = Unit {0}} (Err fault) Full → ⊥
gate_not_full before now NoMemory e is = cc
gate_not_full before now (Failed error) e is = absurd e
gate_not_full before now (Damaged line) e is = absurd e
gate_not_full before now Full e is = absurd e
gate_not_full before now (InDoubt error) e is = cc
