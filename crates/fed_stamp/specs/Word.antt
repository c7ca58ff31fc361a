-- A name is seen as the list of its bytes.
use Rattle.std.specs.Prelude.{ℕ, ◌-◌, Bool, ◌&&◌, ◌||◌, ◌==◌, nat_le, List, ◌++◌, length, slice_index, replicate}
use Rattle.std.specs.Char.{is_ascii_alphabetic, is_ascii_alphanumeric}
use Rattle.std.specs.List.{list_all}
use Rattle.fed_stamp.specs.declared.words.TheConstants.{MAX_NAME}

-- ASCII letters and digits, '_' (95), '-' (45) and '.' (46)
abbrev pub is_name_byte : ℕ → Bool
is_name_byte b = is_ascii_alphanumeric b || (b == 95) || (b == 45) || (b == 46)

-- 1 to `MAX_NAME` of these, and the first a letter
unfoldable pub is_name : List ℕ → Bool
is_name text = nat_le 1 (length text) && nat_le (length text) MAX_NAME && is_ascii_alphabetic (slice_index text 0) &&
    list_all is_name_byte text

-- the bytes, then zeros up to `MAX_NAME`
abbrev pub padded : List ℕ → List ℕ
padded text = text ++ replicate (MAX_NAME - length text) 0
