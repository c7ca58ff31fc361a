-- What a journal keeps.
use Rattle.std.specs.Prelude.{◌≡◌, ◌⊎◌, ℕ, List, [], ◌++◌, length, Ok, Err}
use Rattle.std.specs.List.{All}
use Rattle.fed_journal.specs.Device.{LeavesJust}
use Rattle.fed_journal.specs.Lines.{IsLine, Reading, Stands, at_rest, first_digest, last_digest, open_lines, recovered}
use Rattle.fed_journal.specs.declared.journals.Journal.{Journal}

-- the entries of a file that can be read
abbrev pub entries_of : Reading → List (List ℕ)
entries_of (Ok entries) = entries
entries_of (Err line) = []

abbrev pub entries_in : List ℕ → List (List ℕ)
entries_in file = entries_of (recovered file)

-- What a file has: these entries, this behind their gate, the digest of the last entry, where the gate stands and how long the file is.
pub record Has (file : List ℕ) (entries : List (List ℕ)) (tail digest : List ℕ) (gate len : ℕ) : Type 0 where
  pub stands : Stands file entries tail
  pub lines : All IsLine entries
  pub last : digest ≡ last_digest first_digest entries
  pub at : gate ≡ length (open_lines first_digest entries)
  pub whole : len ≡ length file

-- where a journal keeps its file
abbrev pub device_of : {D : Type 0} → Journal D → D
device_of journal = journal.device

-- where it knows the closed gate to stand, behind the entries that are acknowledged
abbrev pub gate_of : {D : Type 0} → Journal D → ℕ
gate_of journal = journal.gate

-- The journal knows what its file has, and all of that is on the disk.
pub record IsRead {D : Type 0} (seen : D → List ℕ) (may_leave : D → List ℕ → Type 0) (journal : Journal D) (tail : List ℕ) : Type 0 where
  pub has : Has (seen journal.device) (entries_in (seen journal.device)) tail journal.digest journal.gate journal.len
  pub durable : LeavesJust (seen journal.device) (may_leave journal.device)

-- and the file is at rest
pub record IsSettled {D : Type 0} (seen : D → List ℕ) (may_leave : D → List ℕ → Type 0) (journal : Journal D) : Type 0 where
  pub file : seen journal.device ≡ at_rest (entries_in (seen journal.device))
  pub read : IsRead seen may_leave journal []

-- a file that stands for these entries, with all of the group behind them or with none of it
abbrev pub IsBeforeOrAfter : List (List ℕ) → List (List ℕ) → List ℕ → Type 0
IsBeforeOrAfter entries group file = (recovered file ≡ Ok entries) ⊎ (recovered file ≡ Ok (entries ++ group))

-- a file that stands for what this one stood for, or for these entries alone
abbrev pub IsOldOrNew : List ℕ → List (List ℕ) → List ℕ → Type 0
IsOldOrNew old entries file = (recovered file ≡ recovered old) ⊎ (recovered file ≡ Ok entries)
