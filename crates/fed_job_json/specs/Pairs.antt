-- The live pairs of a job's holds and sites as JSON values.
use Rattle.std.specs.Prelude.{◌≡◌, ℕ, Bool, true, ◌&&◌, List, [], ◌∷◌, codes, map, if◌then◌else◌, Ok, Err}
use Rattle.std.specs.List.{AllByRecursion, list_all}
use Rattle.std.specs.declared.cmp.Ordering.{Ordering}
use Rattle.std.specs.Ordering.{is_lt, nat_cmp}
use Rattle.serde_json.specs.Data.{Data, string}
use Rattle.fed_stamp.specs.Stamp.{StampValue}
use Rattle.fed_lattice.specs.Results.{◌>>=◌}
use Rattle.fed_tags.specs.Tags.{pair_cmp}
use Rattle.fed_model.specs.declared.holds.HoldKind.{HoldKind}
use Rattle.fed_model.specs.declared.holds.HoldKind.TheVariants.{User, Operator, System}
use Rattle.fed_model.specs.Hold.{kind_cmp}
use Rattle.fed_json.specs.declared.flaws.Flaw.TheVariants.{Shape}
use Rattle.fed_json.specs.Reading.{Reading, where_true}
use Rattle.fed_json.specs.Numbers.{natural_value}
use Rattle.fed_json.specs.Values.{list_value, is_word, pair_of, pair_value, array_of}
use Rattle.fed_job_json.specs.Stamps.{stamp_value, stamp_of, site_of}
use Rattle.fed_model.specs.Ranges.{IsStamp}

-- each is below all that come after it
abbrev pub ascends : {A : Type 0} → (A → A → Ordering) → List A → Bool
ascends cmp [] = true
ascends cmp (x ∷ xs) = list_all (λ y. is_lt (cmp x y)) xs && ascends cmp xs

abbrev pub kind_word : HoldKind → List ℕ
kind_word User = codes "u"
kind_word Operator = codes "o"
kind_word System = codes "s"

abbrev pub kind_of : Data → Reading HoldKind
kind_of d = if is_word (codes "u") d then Ok User else (if is_word (codes "o") d then Ok Operator else (if is_word (codes "s") d then Ok System else Err Shape))

abbrev pub pairs_value : {E : Type 0} → (E → Data) → List (E × StampValue) → Data
pairs_value v ps = list_value (map (pair_value v stamp_value) ps)

abbrev pub pairs_of : {E : Type 0} → (Data → Reading E) → (E → E → Ordering) → Data → Reading (List (E × StampValue))
pairs_of read cmp d = array_of (pair_of read stamp_of) d >>= where_true (ascends (pair_cmp cmp))

abbrev pub ArePairs : {E : Type 0} → (E → Type 0) → (E → E → Ordering) → List (E × StampValue) → Type 0
ArePairs InRange cmp ps = AllByRecursion (λ p. InRange p.0 × IsStamp p.1) ps × (ascends (pair_cmp cmp) ps ≡ true)

abbrev pub kind_value : HoldKind → Data
kind_value kind = string (kind_word kind)

abbrev pub holds_value : List (HoldKind × StampValue) → Data
holds_value ps = pairs_value kind_value ps

abbrev pub holds_of : Data → Reading (List (HoldKind × StampValue))
holds_of d = pairs_of kind_of kind_cmp d

abbrev pub sites_value : List (ℕ × StampValue) → Data
sites_value ps = pairs_value natural_value ps

abbrev pub sites_of : Data → Reading (List (ℕ × StampValue))
sites_of d = pairs_of site_of nat_cmp d
