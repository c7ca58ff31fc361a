-- A journal that is compacted stands for the same site.
use Rattle.std.specs.Prelude.{Some, Ok, min}
use Rattle.std.specs.declared.io.Error.{Error}
use Rattle.std.proofs.Common.{◌≡◌, ℕ, ◌≤◌, List, length, ap, ◌∙◌, inl, inr, arith}
use Rattle.fed_site.specs.Site.{SiteValue}
use Rattle.fed_journal.specs.Device.{LeavesOnly}
use Rattle.fed_journal.specs.Fault.{StopsReplacing}
use Rattle.fed_journal.specs.Journal.{IsOldOrNew, entries_in, entries_of}
use Rattle.fed_journal.specs.Lines.{at_rest, recovered}
use Rattle.fed_journal.specs.declared.faults.JournalFault.{JournalFault}
use Rattle.fed_journal.specs.declared.faults.JournalFault.TheVariants as journal
use Rattle.fed_home.specs.Compaction.{AreEntriesOf}
use Rattle.fed_home.specs.Fault.{StopsCompaction, fault_of}
use Rattle.fed_journal.proofs.Moments.{still, weaker}
use Rattle.fed_home.specs.Home.{IsOpen, home_device, site_of}
use Rattle.fed_home.specs.Replay.{Replayed, replay, replayed_of}
use Rattle.fed_home.specs.declared.homes.Home.{Home}

-- a file whose entries stand for the site
abbrev pub Stands : SiteValue → List ℕ → Type 0
Stands site file = replay (entries_in file) ≡ Some (replayed_of site)

either : (old : List ℕ) (entries : List (List ℕ)) (site : SiteValue) (file : List ℕ) → Stands site old → replay entries ≡ Some (replayed_of site) → IsOldOrNew old entries file → Stands site file
either old entries site file before stands (inl e) = ap (λ r. replay (entries_of r)) e ∙ before
either old entries site file before stands (inr e) = ap (λ r. replay (entries_of r)) e ∙ stands

module _ {D : Type 0} (moment : D → ℕ) (left_since : D → ℕ → List ℕ → Type 0) (seen : D → List ℕ) (may_leave : D → List ℕ → Type 0) (home : Home D) (opened : IsOpen seen may_leave home) where
  pub still_stands : ((file : D) (c : List ℕ) → left_since file (moment file) c → may_leave file c) → LeavesOnly moment left_since (home_device home) (home_device home) (Stands (site_of home))
  still_stands only = still moment left_since (home_device home) (Stands (site_of home))
      (λ c left. ap (λ f. replay (entries_in f)) (opened.settled.read.durable c (only (home_device home) c left)) ∙ opened.replayed)

  pub replaced_stands : (new : D) (entries : List (List ℕ)) → replay entries ≡ Some (replayed_of (site_of home)) → LeavesOnly moment left_since (home_device home) new (IsOldOrNew (seen (home_device home)) entries)
      → LeavesOnly moment left_since (home_device home) new (Stands (site_of home))
  replaced_stands new entries stands run = weaker moment left_since (home_device home) new (IsOldOrNew (seen (home_device home)) entries) (Stands (site_of home))
      (λ c left. either (seen (home_device home)) entries (site_of home) c opened.replayed stands left) run

-- ---- how long it is
-- a file at rest has as many bytes as were counted
pub done_short : (file : List ℕ) (texts : List (List ℕ)) (bytes most len top : ℕ) → file ≡ at_rest (entries_in file) → recovered file ≡ Ok texts → bytes ≡ min (length (at_rest texts)) top → bytes ≤ most
    → len ≡ length file → len ≤ top → length file ≤ most
done_short file texts bytes most len top rest found counted few whole within =
    let same : length file ≡ length (at_rest texts) = ap length rest ∙ ap (λ r. length (at_rest (entries_of r))) found in
    omega (arith, same, counted, few, whole, within)

-- why it isn't replaced
pub stops_compacting : (site : Replayed) (entries : List (List ℕ)) (before now : List Error) (fault : JournalFault) → AreEntriesOf site entries → StopsReplacing before now (length (at_rest entries)) fault
    → StopsCompaction site before now (fault_of fault)
stops_compacting site entries before now journal.NoMemory are stops = stops
stops_compacting site entries before now (journal.Failed error) are stops = stops
stops_compacting site entries before now (journal.Damaged line) are stops = absurd stops
stops_compacting site entries before now journal.Full are stops = (entries, are, stops)
stops_compacting site entries before now (journal.InDoubt error) are stops = absurd stops
