-- Which jobs changed lately, by the sites that changed them, and the jobs that were touched beyond a version.
use Rattle.std.specs.Prelude.{◌≡◌, ◌≢◌, ◌<◌, ◌≤◌, ℕ, Bool, not, List, [], Option, None, slice_index, slice_index_or}
use Rattle.std.specs.Map.{lookup}
use Rattle.std.specs.BTreeMap.{is_at}
use Rattle.std.proofs.lemmas.Map.Entries.{option_filter}
use Rattle.fed_stamp.specs.declared.sites.TheConstants.{SITES}
use Rattle.fed_stamp.specs.Stamp.{StampValue}
use Rattle.fed_stamp.specs.Version.{is_below}
use Rattle.fed_lattice.specs.Latest.{stamp_cmp}
use Rattle.fed_lattice.specs.Sets.{Has}
use Rattle.fed_lattice.specs.Table.{IsAtEach, value_at}
use Rattle.fed_record.specs.JobRecord.{JobRecordValue}
use Rattle.fed_board.specs.declared.changes.Change.{Change}
use Rattle.fed_board.specs.declared.rises.Rise.{Rise}
use Rattle.fed_board.specs.Board.{no_operation}

-- what a site changed: changes up to the floor need not be listed
pub record SiteValue : Type 0 where
  pub floor : ℕ
  pub changes : List Change

-- the job is listed, under the counter or a greater one
pub record HasChange (changes : List Change) (job : StampValue) (counter : ℕ) : Type 0 where
  pub change : Change
  pub listed : Has changes change
  pub of : change.job ≡ job
  pub late : counter ≤ change.counter

-- a change of the job under the counter is listed, or need not be
abbrev pub IsListed : SiteValue → StampValue → ℕ → Type 0
IsListed c job counter = c.floor < counter → HasChange c.changes job counter

abbrev pub site_at : List SiteValue → ℕ → SiteValue
site_at cs s = slice_index_or cs s (record { floor = 0; changes = [] })

-- at each site, what was listed still is
abbrev pub Keeps : List SiteValue → List SiteValue → Type 0
Keeps cs ds = (s : ℕ) (job : StampValue) (c : ℕ) → s < SITES → IsListed (site_at cs s) job c → IsListed (site_at ds s) job c

-- of each job the latest change by each site is listed, or need not be
abbrev pub AreListed : List SiteValue → List (StampValue × JobRecordValue) → Type 0
AreListed cs jobs = IsAtEach stamp_cmp (λ job r. (s : ℕ) → s < SITES → IsListed (site_at cs s) job (slice_index r.touched s)) jobs

-- so is each of a job's by which the jobs are behind a record of it
abbrev pub IsRisen : List SiteValue → List (StampValue × JobRecordValue) → StampValue → JobRecordValue → Type 0
IsRisen cs jobs job r = (s : ℕ) → s < SITES →
    slice_index (value_at stamp_cmp no_operation jobs job).touched s < slice_index r.touched s →
    IsListed (site_at cs s) job (slice_index r.touched s)

-- so are those that are among the changes
abbrev pub AreAmong : List Rise → List (StampValue × JobRecordValue) → StampValue → JobRecordValue → Type 0
AreAmong rises jobs job r = (s : ℕ) → s < SITES →
    slice_index (value_at stamp_cmp no_operation jobs job).touched s < slice_index r.touched s →
    Has rises (record { counter = slice_index r.touched s; site = s; job = job })

abbrev pub AreRisen : List SiteValue → List (StampValue × JobRecordValue) → List (StampValue × JobRecordValue) → Type 0
AreRisen cs jobs records = IsAtEach stamp_cmp (IsRisen cs jobs) records

-- the job was touched beyond the version
abbrev pub is_later : List ℕ → JobRecordValue → Bool
is_later need r = not (is_below r.touched need)

-- ---- tables of the entries that pass a test
module _ {X : Type 0} (p : X → Bool) (all part : List (StampValue × X)) where
  -- the value at the identifier, where it passes
  abbrev pub passing : StampValue → Option X
  passing id = option_filter p (lookup (is_at (stamp_cmp id)) all)

  -- the part has at the identifier what it is to have
  abbrev pub IsFound : StampValue → Type 0
  IsFound id = lookup (is_at (stamp_cmp id)) part ≡ passing id

  -- wherever the part has anything
  abbrev pub IsPart : Type 0
  IsPart = (id : StampValue) → lookup (is_at (stamp_cmp id)) part ≢ None → IsFound id
