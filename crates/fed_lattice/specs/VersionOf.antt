-- The version of a history.
use Rattle.std.specs.Prelude.{ℕ, ◌<◌, List, [], ◌∷◌, replicate}
use Rattle.fed_stamp.specs.declared.sites.TheConstants.{SITES}
use Rattle.fed_stamp.specs.Stamp.{StampValue}
use Rattle.fed_stamp.specs.Version.{raised}
use Rattle.fed_lattice.specs.Sets.{Has}
use Rattle.fed_lattice.specs.History.{History}

module _ {C : Type 0} where
  -- for each of the 16 sites the greatest counter among the stamps of its changes, or 0
  abbrev pub version_of : History C → List ℕ
  version_of [] = replicate SITES 0
  version_of (e ∷ h) = raised (version_of h) e.0

  -- each change was made at one of the 16 sites
  abbrev pub HasSites : History C → Type 0
  HasSites h = (e : StampValue × C) → Has h e → e.0.site < SITES
