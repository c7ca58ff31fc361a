-- The fields of a job as JSON values: each a value beside the stamp of the operation that set it.
use Rattle.std.specs.Prelude.{ℕ, ℤ, List, [], ◌∷◌, Option, Some, None}
use Rattle.serde_json.specs.Data.{Data, null, string}
use Rattle.fed_stamp.specs.Stamp.{StampValue}
use Rattle.fed_stamp.specs.Word.{is_name}
use Rattle.fed_stamp.specs.declared.rosters.TheConstants.{MAX_NODES}
use Rattle.fed_lattice.specs.Results.{◌>>=◌, mapped}
use Rattle.fed_model.specs.declared.limits.TheConstants.{MAX_LIMIT}
use Rattle.fed_model.specs.Account.{account_of, text_of as text_of_account}
use Rattle.fed_json.specs.Reading.{Reading, where_true, or_range}
use Rattle.fed_json.specs.Numbers.{natural_in, integer_of}
use Rattle.fed_json.specs.Values.{list_value, pair_of, text_of}
use Rattle.fed_model.specs.Ranges.{is_priority, IsStamp}
use Rattle.fed_job_json.specs.Stamps.{stamp_value, stamp_of}

-- a field that no operation set has no value of its own
abbrev pub field_value : {T : Type 0} → (T → Data) → Option (StampValue × T) → Data
field_value v None = null
field_value v (Some f) = list_value (v f.1 ∷ stamp_value f.0 ∷ [])

abbrev pub field_of : {T : Type 0} → (Data → Reading T) → Data → Reading (Option (StampValue × T))
field_of read d = mapped (λ p. Some (p.1, p.0)) (pair_of read stamp_of d)

-- the field is set, and in range
abbrev pub IsField : {T : Type 0} → (T → Type 0) → Option (StampValue × T) → Type 0
IsField InRange None = ⊥
IsField InRange (Some f) = IsStamp f.0 × InRange f.1

-- ---- the values of fields

abbrev pub name_of : Data → Reading (List ℕ)
name_of d = text_of d >>= where_true is_name

abbrev pub priority_of : Data → Reading ℤ
priority_of d = integer_of d >>= where_true is_priority

abbrev pub nodes_of : Data → Reading ℕ
nodes_of d = natural_in 1 MAX_NODES d

abbrev pub limit_of : Data → Reading ℕ
limit_of d = natural_in 1 MAX_LIMIT d

abbrev pub account_value : Option (List ℕ) → Data
account_value account = string (text_of_account account)

abbrev pub account_in : Data → Reading (Option (List ℕ))
account_in d = text_of d >>= λ text. or_range (account_of text)
