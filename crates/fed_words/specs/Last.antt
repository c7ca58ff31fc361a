-- Of what is given twice the last counts.
use Rattle.std.specs.Prelude.{List, [], ◌∷◌, Option, None}
use Rattle.std.specs.Option.{option_or}

-- what the last of a list says, of those that say anything
abbrev pub last_of : {A B : Type 0} → (A → Option B) → List A → Option B
last_of says [] = None
last_of says (x ∷ xs) = option_or (last_of says xs) (says x)
