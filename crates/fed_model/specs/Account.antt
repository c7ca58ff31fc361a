-- An account is seen as a name, or none.
use Rattle.std.specs.Prelude.{ℕ, List, [], ◌∷◌, Option, Some, None, if◌then◌else◌}
use Rattle.fed_stamp.specs.Word.{is_name}

-- the account that a text says: the empty text says the empty account
abbrev pub account_of : List ℕ → Option (Option (List ℕ))
account_of [] = Some None
account_of (b ∷ text) = if is_name (b ∷ text) then Some (Some (b ∷ text)) else None

abbrev pub text_of : Option (List ℕ) → List ℕ
text_of None = []
text_of (Some name) = name
