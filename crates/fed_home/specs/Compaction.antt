-- The entries of a journal that is compacted.
use Rattle.std.specs.Prelude.{◌≡◌, ◌≢◌, ℕ, zero, suc, List, [], ◌∷◌, ◌++◌, length, Some}
use Rattle.fed_replica.specs.State.{State}
use Rattle.fed_site.specs.Known.{unheard}
use Rattle.fed_site.specs.Packets.{IsPacketText}
use Rattle.fed_home.specs.Header.{header_text}
use Rattle.fed_home.specs.Replay.{Replayed, heard_text, replay}

-- what a site writes of what it has heard of the first sites, which are so many
abbrev pub heard_texts : State → ℕ → List (List ℕ)
heard_texts s zero = []
heard_texts s (suc count) = heard_texts s count ++ heard_text s count ∷ []

-- A header, what a site knows, and what it has heard of the first sites, which are so many.
pub record AreEntries (header : List ℕ) (s : State) (count : ℕ) (entries : List (List ℕ)) : Type 0 where
  pub known : List ℕ
  pub knows : IsPacketText (unheard s) 0 known
  pub are : entries ≡ header ∷ (known ∷ heard_texts s count)

-- the entries of a compacted journal of this site: the header names it, and it says of each site of the roster what was heard
abbrev pub AreEntriesOf : Replayed → List (List ℕ) → Type 0
AreEntriesOf site entries = AreEntries (header_text site.roster site.state.site) site.state (length site.roster) entries

-- They aren't read as this site: they are no site's, or another's.
abbrev pub AreOfAnother : Replayed → List (List ℕ) → Type 0
AreOfAnother site entries = replay entries ≢ Some site
