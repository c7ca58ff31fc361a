-- Columns of a table, parted by one space.
use Rattle.std.specs.Prelude.{ℕ, ◌-◌, List, ◌++◌, length, replicate}
use Rattle.std.specs.Fmt.{char_count}

-- the text and spaces after it, up to a width in characters; a longer text stays as it is
abbrev pub left_in : ℕ → List ℕ → List ℕ
left_in width text = text ++ replicate (width - char_count text) 32

-- the number's text and spaces before it, up to a width; a longer one stays as it is
abbrev pub right_in : ℕ → List ℕ → List ℕ
right_in width number = replicate (width - length number) 32 ++ number
