-- A frame: what a program at the other end is told of a line, with the numbers of bytes in front.
use Rattle.std.specs.Prelude.{◌<◌, ◌^◌, ℕ, List, [], ◌∷◌, ◌++◌, decimal, length}

pub record Frame : Type 0 where
  -- the status that the program ends with where the line is its only one
  pub status : ℕ
  pub answer : List ℕ
  pub words : List ℕ

-- the status, the bytes of the answer and the bytes of the words, in decimal
abbrev pub head_line : Frame → List ℕ
head_line frame = decimal frame.status ++ 32 ∷ decimal (length frame.answer) ++ 32 ∷ decimal (length frame.words) ++ 10 ∷ []

abbrev pub frame_bytes : Frame → List ℕ
frame_bytes frame = head_line frame ++ frame.answer ++ frame.words

-- what a machine can hold
abbrev pub IsHeld : Frame → Type 0
IsHeld frame = (frame.status < 2 ^ 64) × (length frame.answer < 2 ^ 64) × (length frame.words < 2 ^ 64)
