-- Objects, by the names of their members.
use Rattle.std.specs.Prelude.{ℕ, Bool, false, List, [], ◌∷◌}
use Rattle.std.specs.Cmp.Lexicographic.{pointwise}
use Rattle.std.specs.Str.{bytes_eq}
use Rattle.serde_json.specs.Data.{Data, object, Members, no_members, member}
use Rattle.serde_json.specs.Find.{get}
use Rattle.fed_lattice.specs.Results.{◌>>=◌}
use Rattle.fed_json.specs.Reading.{Reading, or_shape}

-- names with their values
abbrev pub Named : Type 0
Named = List (List ℕ × Data)

abbrev pub members_from : Named → Members
members_from [] = no_members
members_from (m ∷ ms) = member m.0 m.1 (members_from ms)

abbrev pub object_value : Named → Data
object_value ms = object (members_from ms)

abbrev pub names_of : Members → List (List ℕ)
names_of no_members = []
names_of (member k d ms) = k ∷ names_of ms

-- an object with exactly these names, in this order
abbrev pub has_names : List (List ℕ) → Data → Bool
has_names names (object ms) = pointwise bytes_eq (names_of ms) names
has_names names _ = false

-- the member of this name, read in its own way
abbrev pub member_of : {A : Type 0} → List ℕ → (Data → Reading A) → Data → Reading A
member_of name read d = or_shape (get name d) >>= read
