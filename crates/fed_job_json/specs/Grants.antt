-- The stage of a job's grants as a JSON value. In format 1 an open grant is one of term 1.
use Rattle.std.specs.Prelude.{◌≡◌, ℕ, List, [], ◌∷◌, codes, if◌then◌else◌, Option, IfSome, Err}
use Rattle.serde_json.specs.Data.{Data, string}
use Rattle.fed_lattice.specs.Results.{◌>>=◌, mapped}
use Rattle.fed_model.specs.declared.grants.GrantStage.{GrantStage}
use Rattle.fed_model.specs.declared.grants.GrantStage.TheVariants.{Open, Returned}
use Rattle.fed_model.specs.declared.terms.TheConstants.{MAX_TERM}
use Rattle.fed_json.specs.declared.flaws.Flaw.TheVariants.{Shape}
use Rattle.fed_json.specs.Reading.{Reading, both}
use Rattle.fed_json.specs.Numbers.{natural_value, natural_in}
use Rattle.fed_model.specs.Ranges.{IsFrom, IsStamp, IsSite}
use Rattle.fed_json.specs.Values.{list_value, elements_of, is_word, or_null, null_or}
use Rattle.fed_job_json.specs.declared.formats.Format.{Format}
use Rattle.fed_job_json.specs.declared.formats.Format.TheVariants.{One, Two}
use Rattle.fed_job_json.specs.Stamps.{stamp_value, stamp_of, site_of}

abbrev pub stage_value : Format → GrantStage → Data
stage_value One (Open term stamp site) = list_value (stamp_value stamp ∷ natural_value site ∷ [])
stage_value One (Returned term stamp) = list_value []
stage_value Two (Open term stamp site) = list_value (string (codes "open") ∷ natural_value term ∷ stamp_value stamp ∷ natural_value site ∷ [])
stage_value Two (Returned term stamp) = list_value (string (codes "returned") ∷ natural_value term ∷ stamp_value stamp ∷ [])

abbrev pub term_of : Data → Reading ℕ
term_of d = natural_in 1 MAX_TERM d

abbrev pub open_of : Data → Data → Data → Reading GrantStage
open_of term stamp site = mapped (λ p. Open p.0 p.1.0 p.1.1) (both (term_of term) (both (stamp_of stamp) (site_of site)))

abbrev pub returned_of : Data → Data → Reading GrantStage
returned_of term stamp = mapped (λ p. Returned p.0 p.1) (both (term_of term) (stamp_of stamp))

abbrev pub stage_from : Format → List Data → Reading GrantStage
stage_from One (stamp ∷ site ∷ []) = mapped (λ p. Open 1 p.0 p.1) (both (stamp_of stamp) (site_of site))
stage_from Two (word ∷ term ∷ stamp ∷ site ∷ []) = if is_word (codes "open") word then open_of term stamp site else Err Shape
stage_from Two (word ∷ term ∷ stamp ∷ []) = if is_word (codes "returned") word then returned_of term stamp else Err Shape
stage_from _ _ = Err Shape

abbrev pub stage_of : Format → Data → Reading GrantStage
stage_of format d = elements_of d >>= stage_from format

abbrev pub IsStage : Format → GrantStage → Type 0
IsStage One (Open term stamp site) = (term ≡ 1) × IsStamp stamp × IsSite site
IsStage One (Returned term stamp) = ⊥
IsStage Two (Open term stamp site) = IsFrom 1 MAX_TERM term × IsStamp stamp × IsSite site
IsStage Two (Returned term stamp) = IsFrom 1 MAX_TERM term × IsStamp stamp

abbrev pub grant_value : Format → Option GrantStage → Data
grant_value format grant = null_or (stage_value format) grant

abbrev pub grant_of : Format → Data → Reading (Option GrantStage)
grant_of format d = or_null (stage_of format) d

abbrev pub IsGrant : Format → Option GrantStage → Type 0
IsGrant format grant = IfSome grant (IsStage format)
