-- What a site on a disk keeps.
use Rattle.std.specs.Prelude.{◌≡◌, ◌⊎◌, ℕ, List, [], ◌∷◌, Some, Ok}
use Rattle.fed_replica.specs.State.{State, state_of}
use Rattle.fed_site.specs.Site.{SiteValue}
use Rattle.fed_journal.specs.Journal.{IsRead, IsSettled, device_of, entries_in, gate_of as gate_of_journal}
use Rattle.fed_journal.specs.Lines.{recovered}
use Rattle.fed_home.specs.declared.homes.Home.{Home}
use Rattle.fed_home.specs.Replay.{replay, replayed_of}

-- where a home keeps its journal's file
abbrev pub home_device : {D : Type 0} → Home D → D
home_device home = device_of home.journal

-- its site
abbrev pub site_of : {D : Type 0} → Home D → SiteValue
site_of home = home.site

-- what the site holds
abbrev pub state_in : {D : Type 0} → Home D → State
state_in home = state_of home.site.replica

-- where it knows its journal's closed gate to stand, behind the entries that are acknowledged
abbrev pub gate_of : {D : Type 0} → Home D → ℕ
gate_of home = gate_of_journal home.journal

-- The site reads as the replay of the entries, and all of that is on the disk.
pub record IsReplayed {D : Type 0} (seen : D → List ℕ) (may_leave : D → List ℕ → Type 0) (home : Home D) (tail : List ℕ) : Type 0 where
  pub read : IsRead seen may_leave home.journal tail
  pub replayed : replay (entries_in (seen (device_of home.journal))) ≡ Some (replayed_of home.site)

-- and the file is at rest
pub record IsOpen {D : Type 0} (seen : D → List ℕ) (may_leave : D → List ℕ → Type 0) (home : Home D) : Type 0 where
  pub settled : IsSettled seen may_leave home.journal
  pub replayed : replay (entries_in (seen (device_of home.journal))) ≡ Some (replayed_of home.site)

-- a file that stands for what another stood for, or where that was nothing, for this header
abbrev pub IsBeforeOrHeader : List ℕ → List ℕ → List ℕ → Type 0
IsBeforeOrHeader before header file =
    (recovered file ≡ recovered before) ⊎ ((recovered before ≡ Ok []) × (recovered file ≡ Ok (header ∷ [])))
