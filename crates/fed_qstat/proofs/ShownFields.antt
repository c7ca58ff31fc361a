-- The line of a job that has a value in each field.
use Rattle.std.proofs.Common.{◌≡◌, ℕ, ℤ, List, [], ◌∷◌, ◌++◌, Some, sym, ap, ◌∙◌}
use Rattle.std.specs.Fmt.{decimal, signed_decimal}
use Rattle.std.specs.List.{join_with_byte}
use Rattle.fed_stamp.specs.Stamp.{StampValue}
use Rattle.fed_model.specs.declared.letters.Letter.{Letter}
use Rattle.fed_model.specs.JobView.{JobView}
use Rattle.fed_model.specs.Letter.{holder, letter}
use Rattle.fed_qstat.specs.Columns.{left_in, right_in}
use Rattle.fed_qstat.specs.Identifier.{text_of_identifier}
use Rattle.fed_qstat.specs.JobText.{field_text, letter_text, sign_of_letter, text_of_holder}
use Rattle.fed_qstat.specs.Short.{line_in_short}
use Rattle.fed_qstat.proofs.Columns.{join-parts}

module _ (roster : List (List ℕ × ℕ)) (id : StampValue) (j : JobView) where
  pub short_line-is : (name owner : StampValue × List ℕ) (l : Letter) (priority : StampValue × ℤ) (nodes limit : StampValue × ℕ)
      → j.fields.name ≡ Some name → j.fields.owner ≡ Some owner → letter j ≡ Some l → j.fields.priority ≡ Some priority → j.fields.nodes ≡ Some nodes → j.fields.limit ≡ Some limit
      → join_with_byte 32 (left_in 18 (text_of_identifier roster id) ∷ left_in 16 name.1 ∷ left_in 16 owner.1 ∷ sign_of_letter l
      ∷ right_in 6 (signed_decimal priority.1) ∷ right_in 8 (decimal nodes.1) ∷ right_in 9 (decimal limit.1) ∷ text_of_holder roster (holder j) ∷ []) ++ 10 ∷ []
      ≡ line_in_short roster id j
  short_line-is name owner l priority nodes limit a b c d e f = λ i.
      join_with_byte 32 (left_in 18 (text_of_identifier roster id) ∷ left_in 16 (field_text (λ t. t) (sym a i)) ∷ left_in 16 (field_text (λ t. t) (sym b i)) ∷ letter_text (sym c i)
      ∷ right_in 6 (field_text signed_decimal (sym d i)) ∷ right_in 8 (field_text decimal (sym e i)) ∷ right_in 9 (field_text decimal (sym f i)) ∷ text_of_holder roster (holder j) ∷ []) ++ 10 ∷ []

  -- the line behind a text, as it is written part by part
  pub short_line-behind : (old : List ℕ) (name owner : StampValue × List ℕ) (l : Letter) (priority : StampValue × ℤ) (nodes limit : StampValue × ℕ)
      → j.fields.name ≡ Some name → j.fields.owner ≡ Some owner → letter j ≡ Some l → j.fields.priority ≡ Some priority → j.fields.nodes ≡ Some nodes → j.fields.limit ≡ Some limit
      → old ++ (join_with_byte 32 (left_in 18 (text_of_identifier roster id) ∷ left_in 16 name.1 ∷ left_in 16 owner.1 ∷ sign_of_letter l ∷ [])
      ++ ((32 ∷ (join_with_byte 32 (right_in 6 (signed_decimal priority.1) ∷ right_in 8 (decimal nodes.1) ∷ right_in 9 (decimal limit.1) ∷ []) ++ 32 ∷ []))
      ++ (text_of_holder roster (holder j) ++ 10 ∷ [])))
      ≡ old ++ line_in_short roster id j
  short_line-behind old name owner l priority nodes limit a b c d e f =
      ap (λ line. old ++ line) (join-parts (left_in 18 (text_of_identifier roster id)) (left_in 16 name.1) (left_in 16 owner.1) (sign_of_letter l) (right_in 6 (signed_decimal priority.1)) (right_in 8 (decimal nodes.1)) (right_in 9 (decimal limit.1)) (text_of_holder roster (holder j))
      ∙ short_line-is name owner l priority nodes limit a b c d e f)
