-- A readable line is ASCII, so it is text.
use Rattle.std.proofs.Common.{◌≡◌, ℕ, ◌<◌, true, List, arith, get_or}
use Rattle.std.specs.Str.{IsAscii, IsUtf8}
use Rattle.std.proofs.lemmas.Str.{IsUtf8-from_ascii}
use Rattle.std.proofs.lemmas.Str.Ascii.{IsAscii-from_all}
use Rattle.std.proofs.lemmas.List.Sums.{AllPass-from_list_all}
use Rattle.std.proofs.lemmas.Bool.Decides.{nat_tests}
use Rattle.fed_script.specs.Lines.{is_readable, is_readable_byte}

readable_byte : (b : ℕ) → is_readable_byte b ≡ true → b < 128
readable_byte b e = grind (arith, nat_tests)

readable_ascii : (line : List ℕ) → is_readable line ≡ true → IsAscii line
readable_ascii line e = IsAscii-from_all line (λ k d within. readable_byte (get_or line k d) (AllPass-from_list_all is_readable_byte line e k d within))

pub readable_text : (line : List ℕ) → is_readable line ≡ true → IsUtf8 line
readable_text line e = IsUtf8-from_ascii line (readable_ascii line e)
