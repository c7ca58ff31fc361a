-- Every stamp that is read of a job is covered by the version of its operations.
use Rattle.std.specs.Prelude.{◌≡◌, ℕ, Bool, true, ◌&&◌, List, length, Option, Some, None}
use Rattle.fed_stamp.specs.declared.sites.TheConstants.{SITES}
use Rattle.fed_stamp.specs.Stamp.{StampValue}
use Rattle.fed_stamp.specs.Version.{covers}
use Rattle.fed_model.specs.Grant.{stamp_of}
use Rattle.fed_model.specs.JobView.{JobFields, JobStages, JobView}
use Rattle.fed_model.specs.Letter.{all_fields}

-- the stamp of what is there, if anything is
abbrev pub covers_at : {T : Type 0} → (T → StampValue) → List ℕ → Option T → Bool
covers_at stamp v None = true
covers_at stamp v (Some x) = covers v (stamp x)

-- the stamp under which a register was set
abbrev pub covers_register : {T : Type 0} → List ℕ → Option (StampValue × T) → Bool
covers_register {T} v r = covers_at (λ (latest : StampValue × T). latest.0) v r

abbrev pub covers_fields : List ℕ → JobFields → Bool
covers_fields v f = all_fields (λ _. covers_register v) f

abbrev pub covers_stages : List ℕ → JobStages → Bool
covers_stages v s = covers_at stamp_of v s.grant && (covers_register v s.begun && covers_register v s.finished)

abbrev pub covers_stamps : JobView → Bool
covers_stamps j = covers_fields j.touched j.fields && covers_stages j.touched j.stages

-- the tag of each live pair
abbrev pub AreCoveredPairs : {E : Type 0} → List ℕ → (E → StampValue → Bool) → Type 0
AreCoveredPairs {E} v is_live = (element : E) (tag : StampValue) → is_live element tag ≡ true → covers v tag ≡ true

-- the version has a counter for each of the 16 sites, and it covers every stamp
pub record IsCoveredJob (j : JobView) : Type 0 where
  pub counters : length j.touched ≡ SITES
  pub stamps : covers_stamps j ≡ true
  pub sites : AreCoveredPairs j.touched j.sites
  pub holds : AreCoveredPairs j.touched j.holds
