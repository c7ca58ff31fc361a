-- Words that are numbers.
use Rattle.std.specs.Prelude.{ℕ, ◌-◌, ◌^◌, Bool, ◌&&◌, nat_le, nat_lt, List, length, Option, Some, None, if◌then◌else◌}
use Rattle.std.specs.Char.{is_ascii_digit}
use Rattle.std.specs.List.{list_all}
use Rattle.std.specs.Str.Parse.{digits_value}

-- one or more decimal digits
abbrev pub is_numeral : List ℕ → Bool
is_numeral word = nat_lt 0 (length word) && list_all is_ascii_digit word

abbrev pub is_within : ℕ → ℕ → ℕ → Bool
is_within least most n = nat_le least n && nat_le n most

-- the number that decimal digits write, where it is in this range
abbrev pub number_in : ℕ → ℕ → List ℕ → Option ℕ
number_in least most word = if is_numeral word && is_within least most (digits_value 10 word)
    then Some (digits_value 10 word) else None

-- a number of 64 bits
abbrev pub decimal_in : List ℕ → Option ℕ
decimal_in word = number_in 0 (2 ^ 64 - 1) word
