-- Why a site on a disk fails.
use Rattle.std.specs.Prelude.{◌≡◌, ◌<◌, ℕ, Bool, true, false, List, [], ◌∷◌, length, None, Result, Ok, Err, ⊤}
use Rattle.std.specs.declared.io.Error.{Error}
use Rattle.fed_journal.specs.Fault.{most_bytes}
use Rattle.fed_journal.specs.Lines.{at_rest, recovered}
use Rattle.fed_journal.specs.declared.faults.JournalFault.{JournalFault}
use Rattle.fed_journal.specs.declared.faults.JournalFault.TheVariants as journal
use Rattle.fed_home.specs.declared.faults.HomeFault.{HomeFault}
use Rattle.fed_home.specs.declared.faults.HomeFault.TheVariants.{NoMemory, Failed, Damaged, Full, NoHeader, UnreadHeader, HasEntries, InDoubt, UnreadKnown, UnreadHeard, UnkeptEntry}
use Rattle.fed_home.specs.Compaction.{AreEntriesOf}
use Rattle.fed_home.specs.Replay.{Replayed, replay, replayed_by}

abbrev pub number_of : HomeFault → ℕ
number_of NoMemory = 1
number_of (Failed error) = 2
number_of (Damaged line) = 3
number_of Full = 4
number_of NoHeader = 5
number_of UnreadHeader = 6
number_of HasEntries = 7
number_of (InDoubt error) = 8
number_of UnreadKnown = 9
number_of (UnreadHeard line) = 10
number_of (UnkeptEntry line) = 11

-- whether the journal may have the group that was to be added
abbrev pub is_in_doubt : HomeFault → Bool
is_in_doubt (InDoubt error) = true
is_in_doubt _ = false

-- what a home says where its journal fails
abbrev pub fault_of : JournalFault → HomeFault
fault_of journal.NoMemory = NoMemory
fault_of (journal.Failed error) = Failed error
fault_of (journal.Damaged line) = Damaged line
fault_of journal.Full = Full
fault_of (journal.InDoubt error) = InDoubt error

-- a fault of entries, by what they come to; or there was no memory
abbrev pub StopsAt : Result Replayed HomeFault → HomeFault → Type 0
StopsAt came NoMemory = ⊤
StopsAt came NoHeader = came ≡ Err NoHeader
StopsAt came UnreadHeader = came ≡ Err UnreadHeader
StopsAt came UnreadKnown = came ≡ Err UnreadKnown
StopsAt came (UnreadHeard line) = came ≡ Err (UnreadHeard line)
StopsAt came (UnkeptEntry line) = came ≡ Err (UnkeptEntry line)
StopsAt came _ = ⊥

-- why entries are no site's
abbrev pub StopsReplay : List (List ℕ) → HomeFault → Type 0
StopsReplay entries fault = StopsAt (replayed_by entries) fault

-- Why a home isn't opened: the disk has had this error, by its errors before and now, the newest first; the line of this
-- number is damaged; or the entries are no site's. Or there was no memory.
abbrev pub StopsOpening : List Error → List Error → List ℕ → HomeFault → Type 0
StopsOpening before now file NoMemory = now ≡ before
StopsOpening before now file (Failed error) = now ≡ error ∷ before
StopsOpening before now file (Damaged line) = recovered file ≡ Err line
StopsOpening before now file fault = (entries : List (List ℕ)) × (recovered file ≡ Ok entries) × StopsReplay entries fault

-- Why a home isn't made: the disk has had this error, by its errors before and now, the newest first; the line of this number
-- is damaged; the file would have too many bytes; the file has entries; or it has none, and the header is none of a site that
-- has nothing. Or there was no memory.
abbrev pub StopsMaking : List Error → List Error → List ℕ → List ℕ → HomeFault → Type 0
StopsMaking before now file header NoMemory = now ≡ before
StopsMaking before now file header (Failed error) = now ≡ error ∷ before
StopsMaking before now file header (Damaged line) = recovered file ≡ Err line
StopsMaking before now file header Full = most_bytes < length (at_rest (header ∷ []))
StopsMaking before now file header UnreadHeader = (recovered file ≡ Ok []) × (replay (header ∷ []) ≡ None)
StopsMaking before now file header HasEntries = (first : List ℕ) × (lines : List (List ℕ)) × (recovered file ≡ Ok (first ∷ lines))
StopsMaking before now file header NoHeader = ⊥
StopsMaking before now file header UnreadKnown = ⊥
StopsMaking before now file header (UnreadHeard line) = ⊥
StopsMaking before now file header (UnkeptEntry line) = ⊥
StopsMaking before now file header (InDoubt error) = now ≡ error ∷ before

-- why a file isn't brought to rest
abbrev pub StopsRepair : List Error → List Error → HomeFault → Type 0
StopsRepair before now NoMemory = now ≡ before
StopsRepair before now (Failed error) = now ≡ error ∷ before
StopsRepair before now _ = ⊥

-- why lines aren't answered: also where the file would have so many bytes
abbrev pub StopsAnswers : List Error → List Error → ℕ → HomeFault → Type 0
StopsAnswers before now bytes NoMemory = now ≡ before
StopsAnswers before now bytes (Failed error) = now ≡ error ∷ before
StopsAnswers before now bytes Full = most_bytes < bytes
StopsAnswers before now bytes (InDoubt error) = now ≡ error ∷ before
StopsAnswers before now bytes _ = ⊥

-- why the journal of a site isn't compacted: also where it would have too many bytes
abbrev pub StopsCompaction : Replayed → List Error → List Error → HomeFault → Type 0
StopsCompaction site before now NoMemory = now ≡ before
StopsCompaction site before now (Failed error) = now ≡ error ∷ before
StopsCompaction site before now Full = (entries : List (List ℕ)) × AreEntriesOf site entries × (most_bytes < length (at_rest entries))
StopsCompaction site before now _ = ⊥
