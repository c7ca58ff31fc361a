-- The line of a JSON value: its compact text, and a line feed.
use Rattle.std.specs.Prelude.{ℕ, List, [], ◌∷◌, ◌++◌}
use Rattle.serde_json.specs.Data.{Data}
use Rattle.serde_json.specs.Written.{compact_text}

abbrev pub json_line : Data → List ℕ
json_line d = compact_text d ++ 10 ∷ []
