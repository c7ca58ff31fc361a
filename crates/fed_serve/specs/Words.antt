-- A line whose words are given apart.
use Rattle.std.specs.Prelude.{ℕ, Bool, ◌&&◌, ◌||◌, ◌==◌, ◌-◌, nat_lt, not, List, [], ◌∷◌, ◌++◌, length, take, if◌then◌else◌}
use Rattle.std.specs.List.{join_by, list_all, slice_index}

-- a byte that parts words, or ends a line
abbrev pub parts_words : ℕ → Bool
parts_words byte = byte == 32 || byte == 9 || byte == 10

abbrev pub is_word : List ℕ → Bool
is_word word = nat_lt 0 (length word) && list_all (λ byte. not (parts_words byte)) word

-- the line, where each is a word; else a line that can't be read
abbrev pub line_of : List (List ℕ) → List ℕ
line_of words = if list_all is_word words then join_by (λ word. word) (32 ∷ []) words else (0 ∷ [])

-- A packet's text is freed of one line feed at its end.
abbrev pub without_line_feed : List ℕ → List ℕ
without_line_feed text = if slice_index text (length text - 1) == 10 then take (length text - 1) text else text

-- the line that takes a packet, whose text stands after these words
abbrev pub take_line_of : List (List ℕ) → List ℕ → List ℕ
take_line_of words input = line_of words ++ 32 ∷ without_line_feed input
