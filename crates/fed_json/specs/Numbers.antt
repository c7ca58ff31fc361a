-- Whole numbers. A number that serde_json gives as a float is of another shape.
use Rattle.std.specs.Prelude.{ℕ, ℤ, pos, negsuc, ◌&&◌, nat_le, if◌then◌else◌, Ok, Err}
use Rattle.serde_json.specs.Data.{Data, number, unsigned, negative}
use Rattle.serde_json.specs.Find.{of_integer}
use Rattle.fed_json.specs.declared.flaws.Flaw.TheVariants.{Shape, Range}
use Rattle.fed_json.specs.Reading.{Reading}

abbrev pub natural_value : ℕ → Data
natural_value n = number (unsigned n)

abbrev pub integer_value : ℤ → Data
integer_value z = number (of_integer z)

abbrev pub natural_in : ℕ → ℕ → Data → Reading ℕ
natural_in least most (number (unsigned n)) = if nat_le least n && nat_le n most then Ok n else Err Range
natural_in least most (number (negative z)) = Err Range
natural_in least most _ = Err Shape

-- no text reads as a negative number that isn't below 0
abbrev pub integer_of : Data → Reading ℤ
integer_of (number (unsigned n)) = Ok (pos n)
integer_of (number (negative (negsuc n))) = Ok (negsuc n)
integer_of _ = Err Shape
