-- A record of a job, over its fields F and its stages G.
use Rattle.std.specs.Prelude.{◌≡◌, ◌<◌, ℕ, List, true}
use Rattle.fed_stamp.specs.declared.sites.TheConstants.{SITES}
use Rattle.fed_stamp.specs.Stamp.{StampValue}
use Rattle.fed_stamp.specs.Version.{covers}
use Rattle.fed_lattice.specs.Sets.{Has}
use Rattle.fed_model.specs.declared.holds.HoldKind.{HoldKind}

-- the live pairs of holds and sites stand by element and then by stamp
pub record RecordValue (F G : Type 0) : Type 0 where
  pub fields : F
  pub holds : List (HoldKind × StampValue)
  pub sites : List (ℕ × StampValue)
  pub stages : G
  pub touched : List ℕ

-- each pair's tag is the stamp of one of the 16 sites, and the version covers it
abbrev pub IsCoveredStamp : List ℕ → StampValue → Type 0
IsCoveredStamp v s = (s.site < SITES) × (covers v s ≡ true)

abbrev pub AreCovered : {T : Type 0} → List ℕ → List (T × StampValue) → Type 0
AreCovered {T} v xs = (p : T × StampValue) → Has xs p → IsCoveredStamp v p.1
