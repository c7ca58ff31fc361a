-- Sites, stamps and versions as JSON values.
use Rattle.std.specs.Prelude.{◌≡◌, ◌-◌, ℕ, List, [], ◌∷◌, length, map}
use Rattle.std.specs.List.{AllByRecursion}
use Rattle.fed_stamp.specs.declared.sites.TheConstants.{SITES}
use Rattle.serde_json.specs.Data.{Data}
use Rattle.fed_stamp.specs.Stamp.{StampValue}
use Rattle.fed_stamp.specs.declared.stamps.TheConstants.{MAX_COUNTER}
use Rattle.fed_lattice.specs.Results.{mapped}
use Rattle.fed_json.specs.Reading.{Reading}
use Rattle.fed_json.specs.Numbers.{natural_value, natural_in}
use Rattle.fed_model.specs.Ranges.{IsFrom}
use Rattle.fed_json.specs.Values.{list_value, pair_of, row_of}

abbrev pub site_of : Data → Reading ℕ
site_of d = natural_in 0 (SITES - 1) d

abbrev pub stamp_value : StampValue → Data
stamp_value s = list_value (natural_value s.counter ∷ natural_value s.site ∷ [])

abbrev pub stamp_of : Data → Reading StampValue
stamp_of d = mapped (λ p. record { counter = p.0; site = p.1 }) (pair_of (natural_in 1 MAX_COUNTER) site_of d)

abbrev pub version_value : List ℕ → Data
version_value v = list_value (map natural_value v)

abbrev pub version_of : Data → Reading (List ℕ)
version_of d = row_of SITES (natural_in 0 MAX_COUNTER) d

abbrev pub IsVersion : List ℕ → Type 0
IsVersion v = (length v ≡ SITES) × AllByRecursion (IsFrom 0 MAX_COUNTER) v
