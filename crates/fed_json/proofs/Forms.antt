-- What ties a reader to the value that stands for what it reads.
use Rattle.std.specs.Prelude.{◌≡◌, [], ◌∷◌, Some, Ok}
use Rattle.serde_json.specs.Data.{Data}
use Rattle.serde_json.specs.Find.{get}
use Rattle.fed_json.specs.Reading.{Reading}
use Rattle.fed_json.specs.Objects.{Named}

-- the value is an object that has these members, and perhaps others
abbrev pub HasMembers : Named → Data → Type 0
HasMembers [] d = Unit {0}
HasMembers (m ∷ ms) d = (get m.0 d ≡ Some m.1) × HasMembers ms d

-- just the values of what is in range are read, and each is read as what it is the value of
pub record IsForm {A : Type 0} (read : Data → Reading A) (value : A → Data) (InRange : A → Type 0) : Type 0 where
  pub takes : (d : Data) (x : A) → read d ≡ Ok x → (d ≡ value x) × InRange x
  pub again : (x : A) → InRange x → read (value x) ≡ Ok x

-- the same of some members of an object
pub record IsPartForm {A : Type 0} (read : Data → Reading A) (members : A → Named) (InRange : A → Type 0) : Type 0 where
  pub takes : (d : Data) (x : A) → read d ≡ Ok x → HasMembers (members x) d × InRange x
  pub again : (d : Data) (x : A) → HasMembers (members x) d → InRange x → read d ≡ Ok x
