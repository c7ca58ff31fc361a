-- The lines of an input, as a site is given them.
use Rattle.std.specs.Prelude.{◌≡◌, ◌⊎◌, ℕ, ◌==◌, nat_eq, nat_le, Bool, false, List, [], ◌∷◌, ◌++◌, length, codes, Option, None, Some, if◌then◌else◌, ⊤}
use Rattle.std.specs.Str.Lines.{strip_carriage_return}
use Rattle.std.specs.List.{All, slice_split, starts_with}

-- the most bytes that a line may have, and one that takes a packet
abbrev pub most_bytes : ℕ
most_bytes = 67108864

abbrev pub most_bytes_of_a_take : ℕ
most_bytes_of_a_take = 1073741824

abbrev pub is_take : List ℕ → Bool
is_take line = starts_with nat_eq line (codes "take ")

abbrev pub most_bytes_of : List ℕ → ℕ
most_bytes_of line = if is_take line then most_bytes_of_a_take else most_bytes

-- a line that can't be read
abbrev pub unreadable : List ℕ
unreadable = 0 ∷ []

-- A line that is too long is given as one that can't be read.
abbrev pub given_as : List ℕ → List ℕ
given_as line = if nat_le (length line) (most_bytes_of line) then line else unreadable

-- What stands behind the last line feed was cut on its way, where it is anything: it is given as a line that can't be read.
abbrev pub cut_line : List ℕ → List (List ℕ)
cut_line begun = if length begun == 0 then [] else (unreadable ∷ [])

-- the lines in the parts between line feeds
abbrev pub lines_of_parts : List (List ℕ) → List (List ℕ)
lines_of_parts [] = []
lines_of_parts (begun ∷ []) = cut_line begun
lines_of_parts (line ∷ next ∷ parts) = given_as (strip_carriage_return line) ∷ lines_of_parts (next ∷ parts)

-- the lines that a site is given
abbrev pub lines_in : List ℕ → List (List ℕ)
lines_in input = lines_of_parts (slice_split (λ byte. byte == 10) input)

-- whole lines
abbrev pub EndsLines : List ℕ → Type 0
EndsLines text = (text ≡ []) ⊎ ((front : List ℕ) × (text ≡ front ++ 10 ∷ []))

-- what has come of a line that isn't at its end
abbrev pub HasNoLineFeed : List ℕ → Type 0
HasNoLineFeed text = All (λ byte. (byte == 10) ≡ false) text

-- an input whose bytes are known has these; of another, as a process's standard input, they are what it gives
abbrev pub IsKnownAs : Option (List ℕ) → List ℕ → Type 0
IsKnownAs None input = ⊤
IsKnownAs (Some known) input = known ≡ input
