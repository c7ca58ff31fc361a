-- What `parse` gives of a word of digits.
use Rattle.std.proofs.Common.{◌≡◌, ◌≢◌, ℕ, ◌<◌, ◌-◌, ◌^◌, inl, inr, Bool, true, false, ◌&&◌, nat_lt, List, length, Some, None, Result, Ok, Err, refl, ap, sym, arith, rules, ℤ, pos, negsuc, FitsSigned}
use Rattle.std.specs.Prelude.{if◌then◌else◌, option_and_then, slice_index}
use Rattle.std.proofs.lemmas.Bool.{and_parts, cases_lt, lt-ltb}
use Rattle.std.specs.Char.{is_ascii_digit}
use Rattle.std.specs.List.{list_all}
use Rattle.std.specs.Result.{result_ok, OkIff}
use Rattle.std.specs.Str.Parse.{IsNumeral, ParsesUnsigned, digits_value, signed_digits_value, without_leading_sign}
use Rattle.std.proofs.lemmas.Str.Parse.{IsNumeralModel, numerals_by_value, parse_plain}
use Rattle.std.proofs.lemmas.Bool.Decides.{nat_tests}
use Rattle.std.proofs.lemmas.Int.{ints}
use borrow.Author.Tests.{ltb-true}
use Rattle.std.specs.Int.{w16}
use Rattle.fed_words.specs.Priority.{is_priority, priority_in}
use Rattle.fed_words.specs.Number.{is_numeral, is_within, number_in, decimal_in}

numerals : IsNumeralModel (λ word. list_all is_ascii_digit word ≡ true) (digits_value 10)
numerals = numerals_by_value (λ word. list_all is_ascii_digit word ≡ true) (search rules)

within_64 : (value : ℕ) → value < 2 ^ 64 → is_within 0 (2 ^ 64 - 1) value ≡ true
within_64 value h = grind (arith, nat_tests)

small_64 : (value : ℕ) → is_within 0 (2 ^ 64 - 1) value ≡ true → value < 2 ^ 64
small_64 value e = grind (arith, nat_tests)

beyond_64 : (value : ℕ) → ¬ (value < 2 ^ 64) → is_within 0 (2 ^ 64 - 1) value ≡ false
beyond_64 value h = grind (arith, nat_tests)

beyond : (least most value : ℕ) → most < 2 ^ 64 → 2 ^ 64 - 1 < value → is_within least most value ≡ false
beyond least most value small h = grind (arith, nat_tests)

unless_both : {T : Type 0} (a b : Bool) (x : T) → (a ≡ true → b ≡ true → ⊥) → (if a && b then Some x else None) ≡ None
unless_both true true x h = absurd (h refl refl)
unless_both true false x h = refl
unless_both false b x h = refl

-- the option of a result that is `Ok` of a value of 64 bits where digits write it
ok_within : {E : Type 0} (r : Result ℕ E) (few value : ℕ) (digits : Bool)
    → OkIff r ((digits ≡ true) × (0 < few) × (value < 2 ^ 64)) value
    → result_ok r ≡ (if (nat_lt 0 few && digits) && is_within 0 (2 ^ 64 - 1) value then Some value else None)
ok_within (Ok x) few value digits h = rw (lt-ltb 0 few h.0.1, h.0.0, within_64 value h.0.2) (ap Some h.1)
ok_within (Err y) few value digits h = sym (unless_both (nat_lt 0 few && digits) (is_within 0 (2 ^ 64 - 1) value) value
    (λ numeral small. let parts = and_parts (nat_lt 0 few) digits numeral in h (parts.1, ltb-true 0 few parts.0, small_64 value small)))

-- `parse` reads a word that doesn't begin with a plus sign
pub number_in-parsed : {E : Type 0} (word : List ℕ) (r : Result ℕ E) → ParsesUnsigned 64 10 word r → slice_index word 0 ≢ 43
    → result_ok r ≡ decimal_in word
number_in-parsed word r h plain =
    ok_within r (length word) (digits_value 10 word) (list_all is_ascii_digit word) (parse_plain numerals 64 word r h plain)

-- a test of a number of 64 bits
picked : (numeral : Bool) (least most value : ℕ) → most < 2 ^ 64 → option_and_then (λ n. if is_within least most n then Some n else None) (if numeral && is_within 0 (2 ^ 64 - 1) value then Some value else None) ≡ (if numeral && is_within least most value then Some value else None)
picked false least most value small = refl
picked true least most value small = elim (cases_lt (2 ^ 64 - 1) value) [
  | inl high ↦ rw (beyond_64 value (omega arith), beyond least most value small high) refl
  | inr low ↦ rw (within_64 value (omega arith)) refl
]

-- a number in a narrower range
pub number_in-narrower : (least most : ℕ) (word : List ℕ) → most < 2 ^ 64 → option_and_then (λ n. if is_within least most n then Some n else None) (number_in 0 (2 ^ 64 - 1) word) ≡ number_in least most word
number_in-narrower least most word small = picked (is_numeral word) least most (digits_value 10 word) small

pub narrower : (least most n : ℕ) (word : List ℕ) → most < 2 ^ 64 → Some n ≡ number_in 0 (2 ^ 64 - 1) word → (if is_within least most n then Some n else None) ≡ number_in least most word
narrower least most n word small e = rw (← e) at (number_in-narrower least most word small)

-- the form that `parse` asks for, of a word that is one or more digits
numeral_parts : (word : List ℕ) → is_numeral word ≡ true → IsNumeral 10 word
numeral_parts word e = let parts = and_parts (nat_lt 0 (length word)) (list_all is_ascii_digit word) e in (ltb-true 0 (length word) parts.0, numerals.to word parts.1)

pub parts_numeral : (word : List ℕ) → IsNumeral 10 word → is_numeral word ≡ true
parts_numeral word h = let some : 0 < length word = h.0 in let tested : nat_lt 0 (length word) ≡ true = grind (arith, nat_tests) in rw (tested, numerals.from word h.1) refl

fits_priority : (z : ℤ) → is_priority z ≡ true → FitsSigned w16 z
fits_priority (pos n) e = grind (arith, ints, nat_tests)
fits_priority (negsuc n) e = grind (arith, ints, nat_tests)

-- `parse` reads a word that is a priority
pub priority_in-number : (word : List ℕ) (z : ℤ) → IsNumeral 10 (without_leading_sign word) → z ≡ signed_digits_value 10 word → (if is_priority z then Some z else None) ≡ priority_in word
priority_in-number word z numeral same = rw (parts_numeral (without_leading_sign word) numeral, same) refl

pub priority_in-none : (word : List ℕ) → ¬ (IsNumeral 10 (without_leading_sign word) × FitsSigned w16 (signed_digits_value 10 word)) → None ≡ priority_in word
priority_in-none word h = sym (unless_both (is_numeral (without_leading_sign word)) (is_priority (signed_digits_value 10 word)) (signed_digits_value 10 word)
    (λ numeral small. h (numeral_parts (without_leading_sign word) numeral, fits_priority (signed_digits_value 10 word) small)))
