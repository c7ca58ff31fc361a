-- Texts of worked scripts.
use Rattle.std.specs.Prelude.{ℕ, List, [], ◌∷◌, ◌++◌, flat_map}
use Rattle.fed_replay.specs.Said.{Said, all_read, said}

-- lines, each with its line feed
abbrev pub text_of : List (List ℕ) → List ℕ
text_of lines = flat_map (λ line. line ++ 10 ∷ []) lines

abbrev pub said_to : List (List ℕ) → Said
said_to script = said (text_of script)

abbrev pub all_said : List (List ℕ) → Said
all_said answers = all_read (text_of answers)
