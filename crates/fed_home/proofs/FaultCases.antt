-- What the faults of a journal are to its home.
use Rattle.std.specs.Prelude.{◌==◌, Vec}
use Rattle.std.proofs.Common.{◌≡◌, ℕ, false, List, [], ◌∷◌, length, Ok, refl, ap, ◌∙◌}
use Rattle.std.specs.declared.alloc.Global.{Global}
use Rattle.std.specs.declared.io.Error.{Error}
use Rattle.fed_journal.specs.Device.{LeavesOnly}
use Rattle.fed_journal.specs.Fault.{StopsGroup, is_in_doubt as in_doubt}
use Rattle.fed_journal.specs.Journal.{IsSettled, entries_in}
use Rattle.fed_journal.specs.Lines.{at_rest, recovered, texts_of}
use Rattle.fed_journal.specs.declared.journals.Journal.{Journal}
use Rattle.fed_journal.proofs.Crash.{recovered_stands}
use Rattle.fed_journal.proofs.Moments.{still, weaker}
use Rattle.fed_journal.specs.declared.faults.JournalFault.{JournalFault}
use Rattle.fed_journal.specs.declared.faults.JournalFault.TheVariants as journal
use Rattle.fed_home.specs.declared.faults.HomeFault.{HomeFault}
use Rattle.fed_home.specs.declared.faults.HomeFault.TheVariants.{NoMemory, Failed, Damaged, Full, NoHeader, UnreadHeader, HasEntries, InDoubt, UnreadKnown, UnreadHeard, UnkeptEntry}
use Rattle.fed_home.specs.Fault.{StopsMaking, StopsOpening, StopsReplay, fault_of, is_in_doubt}

-- an append of the header that failed
pub stops_header : (before now : List Error) (file header : List ℕ) (fault : JournalFault) → StopsGroup before now (length (at_rest (header ∷ []))) fault → StopsMaking before now file header (fault_of fault)
stops_header before now file header journal.NoMemory e = e
stops_header before now file header (journal.Failed error) e = e
stops_header before now file header (journal.Damaged line) e = absurd e
stops_header before now file header journal.Full e = e
stops_header before now file header (journal.InDoubt error) e = e

-- entries that are there
pub has_entries : (file : List ℕ) (entries : List (Vec ℕ Global)) → (length entries == 0) ≡ false → recovered file ≡ Ok (texts_of entries)
    → (first : List ℕ) × (lines : List (List ℕ)) × (recovered file ≡ Ok (first ∷ lines))
has_entries file [] e r = cc
has_entries file (entry ∷ entries) e r = (entry.items, texts_of entries, r)

-- entries that are no site's
pub stops_opening : (before now : List Error) (file : List ℕ) (entries : List (List ℕ)) (fault : HomeFault) → now ≡ before → recovered file ≡ Ok entries → StopsReplay entries fault → StopsOpening before now file fault
stops_opening before now file entries NoMemory same found stops = same
stops_opening before now file entries (Failed error) same found stops = absurd stops
stops_opening before now file entries (Damaged line) same found stops = absurd stops
stops_opening before now file entries Full same found stops = (entries, found, stops)
stops_opening before now file entries NoHeader same found stops = (entries, found, stops)
stops_opening before now file entries UnreadHeader same found stops = (entries, found, stops)
stops_opening before now file entries HasEntries same found stops = (entries, found, stops)
stops_opening before now file entries (InDoubt error) same found stops = (entries, found, stops)
stops_opening before now file entries UnreadKnown same found stops = (entries, found, stops)
stops_opening before now file entries (UnreadHeard line) same found stops = (entries, found, stops)
stops_opening before now file entries (UnkeptEntry line) same found stops = (entries, found, stops)

-- a fault of a journal leaves its home in doubt where it leaves the journal so
same_doubt : (fault : JournalFault) → in_doubt fault ≡ is_in_doubt (fault_of fault)
same_doubt journal.NoMemory = refl
same_doubt (journal.Failed error) = refl
same_doubt (journal.Damaged line) = refl
same_doubt journal.Full = refl
same_doubt (journal.InDoubt error) = refl

module _ {D : Type 0} (moment : D → ℕ) (left_since : D → ℕ → List ℕ → Type 0) (seen : D → List ℕ) (may_leave : D → List ℕ → Type 0) (journal : Journal D) (s : IsSettled seen may_leave journal) where
  known : recovered (seen journal.device) ≡ Ok (entries_in (seen journal.device))
  known = recovered_stands (seen journal.device) (entries_in (seen journal.device)) [] s.read.has.lines s.read.has.stands

  -- nothing was done
  pub untouched : ((file : D) (c : List ℕ) → left_since file (moment file) c → may_leave file c) → LeavesOnly moment left_since journal.device journal.device (λ c. recovered c ≡ Ok (entries_in (seen journal.device)))
  untouched only_now =
      still moment left_since journal.device (λ c. recovered c ≡ Ok (entries_in (seen journal.device)))
      (λ c left. ap recovered (s.read.durable c (only_now journal.device c left)) ∙ known)

  -- an append that failed and leaves no doubt
  pub nothing_kept : (new : D) (fault : JournalFault) → (in_doubt fault ≡ false → LeavesOnly moment left_since journal.device new (λ c. recovered c ≡ recovered (seen journal.device)))
      → is_in_doubt (fault_of fault) ≡ false → LeavesOnly moment left_since journal.device new (λ c. recovered c ≡ Ok (entries_in (seen journal.device)))
  nothing_kept new fault nothing sure =
      weaker moment left_since journal.device new (λ c. recovered c ≡ recovered (seen journal.device)) (λ c. recovered c ≡ Ok (entries_in (seen journal.device)))
      (λ c same. same ∙ known) (nothing (same_doubt fault ∙ sure))
