-- Lists of kinds of holds.
use Rattle.std.specs.Prelude.{ℕ, Bool, ◌&&◌, ◌||◌, ◌==◌, nat_lt, List, length, Option, Some, None, if◌then◌else◌}
use Rattle.std.specs.List.{list_all, list_any}
use Rattle.std.specs.Str.{byte}
use Rattle.fed_model.specs.declared.holds.HoldKinds.{HoldKinds}
use Rattle.fed_model.specs.Hold.{sum_of_bits}

abbrev pub is_kind_letter : ℕ → Bool
is_kind_letter b = (b == byte "u") || (b == byte "o") || (b == byte "s")

-- the letter stands in the list
abbrev pub has_letter : ℕ → List ℕ → Bool
has_letter letter text = list_any (λ b. b == letter) text

-- one or more of the letters `u`, `o`, `s`
abbrev pub kinds_in : List ℕ → Option HoldKinds
kinds_in text = if nat_lt 0 (length text) && list_all is_kind_letter text
    then Some (record {
      0 = sum_of_bits (has_letter (byte "u") text) (has_letter (byte "o") text) (has_letter (byte "s") text);
    })
    else None
