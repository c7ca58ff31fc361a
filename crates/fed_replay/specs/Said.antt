-- What is said to a script: the answers of its lines, up to the first that can't be read.
use Rattle.std.specs.Prelude.{ℕ, ◌+◌, List, [], ◌∷◌, ◌++◌, take, Option, Some, None}
use Rattle.std.specs.Option.{option_map_or}
use Rattle.std.specs.Str.Lines.{lines}
use Rattle.fed_replay.specs.Script.{Answered, State, answered}

-- the text, and the number of the first line that can't be read, if there is one
pub record Said : Type 0 where
  pub text : List ℕ
  pub unread : Option ℕ

abbrev pub all_read : List ℕ → Said
all_read text = record { text = text; unread = None }

-- nothing, and the line of this number can't be read
abbrev pub ends_before : ℕ → Said
ends_before n = record { text = []; unread = Some n }

-- an answer before what is said to the lines that follow
abbrev pub answers : List ℕ → Said → Said
answers text said = record { text = text ++ said.text; unread = said.unread }

-- what is said to lines, of which the first has the number n
abbrev pub said_from : ℕ → State → List (List ℕ) → Said
said_from n state [] = all_read []
said_from n state (bytes ∷ rest) = option_map_or
    (λ (first : Answered State). answers first.text (said_from (n + 1) first.after rest))
    (answered state bytes) (ends_before n)

abbrev pub said : List ℕ → Said
said script = said_from 1 None (lines script)

-- what is said to the first k lines of a script
abbrev pub said_first : ℕ → List ℕ → Said
said_first k script = said_from 1 None (take k (lines script))
