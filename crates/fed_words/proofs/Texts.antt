-- Values are read back from the words that say them.
use Rattle.std.proofs.Common.{◌≡◌, ◌≢◌, ℕ, suc, ◌<◌, ◌^◌, ℤ, pos, negsuc, Bool, true, false, List, [], ◌∷◌, get_or, Some, refl, arith}
use Rattle.std.specs.Prelude.{◌==◌}
use Rattle.std.specs.Fmt.{decimal, signed_decimal}
use Rattle.std.specs.Int.{IsInRange}
use Rattle.std.specs.Str.Parse.{AllDigits}
use Rattle.std.proofs.lemmas.Bool.Decides.{nat_tests}
use Rattle.std.proofs.lemmas.Fmt.{decimal_is_IsNumeral}
use Rattle.std.proofs.lemmas.Str.Parse.{digit_from_value, digit_at, without_leading_plus_none}
use Rattle.std.proofs.lemmas.Bool.{and_parts}
use Rattle.fed_stamp.specs.Roster.{is_site_byte, is_site_name}
use Rattle.fed_words.specs.Number.{is_within, number_in}
use Rattle.fed_words.specs.Priority.{is_priority, priority_in}
use Rattle.fed_words.proofs.Cuts.{Free, free_from_all}
use Rattle.fed_words.proofs.DigitWords.{parts_numeral}

pub in_64 : (least most n : ℕ) → most < 2 ^ 64 → is_within least most n ≡ true → n < 2 ^ 64
in_64 least most n low e = grind (arith, nat_tests)

pub number_in-decimal : (least most n : ℕ) → most < 2 ^ 64 → is_within least most n ≡ true → number_in least most (decimal n) ≡ Some n
number_in-decimal least most n low e =
    let digits = decimal_is_IsNumeral n (in_64 least most n low e) in
    rw (parts_numeral (decimal n) digits.0, digits.1, e) refl

first_digit : (n : ℕ) → n < 2 ^ 64 → IsInRange 48 57 (get_or (decimal n) 0 0)
first_digit n h = let digits = decimal_is_IsNumeral n h in digit_at (decimal n) 0 digits.0.1 digits.0.0

no_minus : (b : ℕ) → IsInRange 48 57 b → (b == 45) ≡ false
no_minus b h = grind (arith, nat_tests)

no_plus : (b : ℕ) → IsInRange 48 57 b → b ≢ 43
no_plus b h = λ e. omega arith

small_pos : (n : ℕ) → is_priority (pos n) ≡ true → n < 2 ^ 64
small_pos n e = grind (arith, nat_tests)

small_neg : (n : ℕ) → is_priority (negsuc n) ≡ true → suc n < 2 ^ 64
small_neg n e = grind (arith, nat_tests)

pub priority_in-signed : (z : ℤ) → is_priority z ≡ true → priority_in (signed_decimal z) ≡ Some z
priority_in-signed (pos n) e =
    let low = small_pos n e in
    let digits = decimal_is_IsNumeral n low in
    let first = first_digit n low in
    let unsigned : (get_or (decimal n) 0 0 == 45) ≡ false = no_minus (get_or (decimal n) 0 0) first in
    rw (unsigned, without_leading_plus_none (decimal n) (no_plus (get_or (decimal n) 0 0) first), parts_numeral (decimal n) digits.0, digits.1, e) refl
priority_in-signed (negsuc n) e =
    let digits = decimal_is_IsNumeral (suc n) (small_neg n e) in
    rw (parts_numeral (decimal (suc n)) digits.0, digits.1, e) refl

pub free-digits : (p : ℕ → Bool) (ds : List ℕ) → ((c : ℕ) → IsInRange 48 57 c → p c ≡ false) → AllDigits 10 ds → Free p ds
free-digits p [] h digits = tt
free-digits p (c ∷ ds) h digits = (h c (digit_from_value c digits.0), free-digits p ds h digits.1)

pub free-decimal : (p : ℕ → Bool) (n : ℕ) → n < 2 ^ 64 → ((c : ℕ) → IsInRange 48 57 c → p c ≡ false) → Free p (decimal n)
free-decimal p n low h = free-digits p (decimal n) h (decimal_is_IsNumeral n low).0.1

-- a byte of a site's name is no separator
pub no_plus_sign : (b : ℕ) → is_site_byte b ≡ true → (b == 43) ≡ false
no_plus_sign b h = grind (arith, nat_tests)

pub no_comma : (b : ℕ) → is_site_byte b ≡ true → (b == 44) ≡ false
no_comma b h = grind (arith, nat_tests)

pub free-site_name : (p : ℕ → Bool) (text : List ℕ) → ((b : ℕ) → is_site_byte b ≡ true → p b ≡ false) → is_site_name text ≡ true → Free p text
unfolding is_site_name
free-site_name p text h e = free_from_all p is_site_byte text h (and_parts _ _ e).1
