-- The lines and words of a script. Its lines are those of `Rattle.std.specs.Str.Lines.lines`: a line feed ends a
-- line, the last line may lack it, and a carriage return before a line feed is dropped.
use Rattle.std.specs.Prelude.{ℕ, Bool, ◌||◌, ◌&&◌, ◌==◌, nat_le, nat_lt, List, length, filter}
use Rattle.std.specs.List.{list_all, slice_split}
use Rattle.std.specs.Char.{is_ascii_whitespace}

-- a printable ASCII character, a space or a tab
abbrev pub is_readable_byte : ℕ → Bool
is_readable_byte byte = (nat_le 32 byte && nat_le byte 126) || byte == 9

abbrev pub is_readable : List ℕ → Bool
is_readable line = list_all is_readable_byte line

-- what stands between white space; a readable line has no white space but spaces and tabs
abbrev pub words_of : List ℕ → List (List ℕ)
words_of line = filter (λ word. nat_lt 0 (length word)) (slice_split is_ascii_whitespace line)
