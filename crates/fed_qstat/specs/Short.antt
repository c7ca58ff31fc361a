-- The short listing's line of a job.
use Rattle.std.specs.Prelude.{ℕ, List, [], ◌∷◌, ◌++◌}
use Rattle.std.specs.List.{join_with_byte}
use Rattle.std.specs.Fmt.{decimal, signed_decimal}
use Rattle.fed_stamp.specs.Stamp.{StampValue}
use Rattle.fed_model.specs.JobView.{JobView}
use Rattle.fed_model.specs.Letter.{holder, letter}
use Rattle.fed_qstat.specs.Columns.{left_in, right_in}
use Rattle.fed_qstat.specs.Identifier.{text_of_identifier}
use Rattle.fed_qstat.specs.JobText.{field_text, letter_text, text_of_holder}

abbrev pub columns : List (List ℕ × ℕ) → StampValue → JobView → List (List ℕ)
columns roster id j =
    left_in 18 (text_of_identifier roster id)
    ∷ left_in 16 (field_text (λ name. name) j.fields.name)
    ∷ left_in 16 (field_text (λ owner. owner) j.fields.owner)
    ∷ letter_text (letter j)
    ∷ right_in 6 (field_text signed_decimal j.fields.priority)
    ∷ right_in 8 (field_text decimal j.fields.nodes)
    ∷ right_in 9 (field_text decimal j.fields.limit)
    ∷ text_of_holder roster (holder j)
    ∷ []

-- the columns, parted by one space, and a line feed
abbrev pub line_in_short : List (List ℕ × ℕ) → StampValue → JobView → List ℕ
line_in_short roster id j = join_with_byte 32 (columns roster id j) ++ 10 ∷ []
