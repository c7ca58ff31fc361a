-- Words that are priorities.
use Rattle.std.specs.Prelude.{ℕ, ℤ, Bool, ◌&&◌, int_le, List, Option, Some, None, if◌then◌else◌}
use Rattle.std.specs.Str.Parse.{signed_digits_value, without_leading_sign}
use Rattle.fed_model.specs.declared.priorities.TheConstants.{MIN_PRIORITY, MAX_PRIORITY}
use Rattle.fed_words.specs.Number.{is_numeral}

abbrev pub is_priority : ℤ → Bool
is_priority number = int_le MIN_PRIORITY number && int_le number MAX_PRIORITY

-- an optional sign, and one or more decimal digits
abbrev pub priority_in : List ℕ → Option ℤ
priority_in word = if is_numeral (without_leading_sign word) && is_priority (signed_digits_value 10 word)
    then Some (signed_digits_value 10 word) else None
