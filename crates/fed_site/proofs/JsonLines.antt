-- The text of a JSON value has no line feed, whatever the value is.
use Rattle.std.specs.Prelude.{◌/◌, ◌%◌, cond, if◌then◌else◌, nat_eq, nat_lt, ◌==◌}
use Rattle.std.specs.Char.{digit_char}
use Rattle.std.specs.Fmt.{decimal, digit_glyph, digits, digits_onto}
use Rattle.std.specs.List.{list_any}
use Rattle.std.proofs.Common.{◌≡◌, ℕ, zero, suc, pos, negsuc, Bool, true, false, ◌||◌, List, [], ◌∷◌, ◌++◌, refl, ap, ◌∙◌, arith}
use Rattle.std.proofs.lemmas.Bool.{or_parts}
use Rattle.std.proofs.lemmas.Bool.Decides.{nat_tests}
use Rattle.std.proofs.lemmas.List.Folds.{list_any-append}
use Rattle.json.specs.Print.{escape, escape_byte, escape_letter, quoted}
use Rattle.serde_json.specs.Data.{Num, unsigned, negative, float, Data, null, boolean, number, string, array, object, Items, no_items, item, Members, no_members, member}
use Rattle.serde_json.specs.Written.{comma_if, compact_text, items_text, members_text, number_text}

-- a text without a line feed
abbrev pub is_line_feed : ℕ → Bool
is_line_feed byte = byte == 10

abbrev pub IsFeedless : List ℕ → Type 0
IsFeedless text = list_any is_line_feed text ≡ false

turned : (b : ℕ) → is_line_feed b ≡ false → nat_eq 10 b ≡ false
turned b e = grind (arith, nat_tests)

-- as the search for a character asks it
pub feedless_found : (text : List ℕ) → IsFeedless text → list_any (nat_eq 10) text ≡ false
feedless_found [] e = refl
feedless_found (b ∷ text) e =
    let parts = or_parts (is_line_feed b) (list_any is_line_feed text) e in
    ap (λ here. here || list_any (nat_eq 10) text) (turned b parts.0) ∙ feedless_found text parts.1

pub feedless-cons : (b : ℕ) (text : List ℕ) → is_line_feed b ≡ false → IsFeedless text → IsFeedless (b ∷ text)
feedless-cons b text e f = ap (λ here. here || list_any is_line_feed text) e ∙ f

pub feedless-append : (xs ys : List ℕ) → IsFeedless xs → IsFeedless ys → IsFeedless (xs ++ ys)
feedless-append xs ys e f = list_any-append is_line_feed xs ys ∙ ap (λ before. before || list_any is_line_feed ys) e ∙ f

-- ---- numbers
glyph_feedless : (d : ℕ) → is_line_feed (digit_glyph false d) ≡ false
glyph_feedless d = grind (arith, nat_tests)

digits_feedless : (k n : ℕ) (after : List ℕ) → IsFeedless after → IsFeedless (digits_onto k 10 false n after)
digits_feedless zero n after e = e
digits_feedless (suc k) n after e =
    let more : List ℕ = digit_glyph false (n % 10) ∷ after in
    let one : IsFeedless more = feedless-cons (digit_glyph false (n % 10)) after (glyph_feedless (n % 10)) e in
    stops (n / 10 == 0) more (digits_onto k 10 false (n / 10) more) one (digits_feedless k (n / 10) more one)
  where
    stops : (here : Bool) (xs ys : List ℕ) → IsFeedless xs → IsFeedless ys → IsFeedless (if here then xs else ys)
    stops true xs ys e f = e
    stops false xs ys e f = f

pub decimal_feedless : (n : ℕ) → IsFeedless (decimal n)
unfolding digits
decimal_feedless n = digits_feedless 64 n [] refl

number_feedless : (n : Num) → IsFeedless (number_text n)
number_feedless (unsigned n) = decimal_feedless n
number_feedless (negative (pos n)) = decimal_feedless n
number_feedless (negative (negsuc n)) = decimal_feedless (suc n)
number_feedless (float x) = refl

-- ---- strings
letter_feedless : (x : ℕ) → is_line_feed (escape_letter x) ≡ false
letter_feedless x = grind (arith, nat_tests)

digit_feedless : (d : ℕ) → is_line_feed (digit_char d) ≡ false
digit_feedless d = grind (arith, nat_tests)

module _ (x : ℕ) where
  abbrev short : List ℕ
  short = 92 ∷ escape_letter x ∷ []

  abbrev hex : List ℕ
  hex = 92 ∷ 117 ∷ 48 ∷ 48 ∷ digit_char (x / 16) ∷ digit_char (x % 16) ∷ []

  short_feedless : IsFeedless short
  short_feedless = feedless-cons (escape_letter x) [] (letter_feedless x) refl

  hex_feedless : IsFeedless hex
  hex_feedless =
      let last = digit_char (x % 16) in
      feedless-cons (digit_char (x / 16)) (last ∷ []) (digit_feedless (x / 16)) (feedless-cons last [] (digit_feedless (x % 16)) refl)

  -- a byte that has no letter of its own
  itself : nat_lt 0 (escape_letter x) ≡ false → is_line_feed x ≡ false
  itself none = grind (arith, nat_tests)

  long_feedless : (low : Bool) → is_line_feed x ≡ false → IsFeedless (cond low hex (x ∷ []))
  long_feedless true e = hex_feedless
  long_feedless false e = feedless-cons x [] e refl

  either_feedless : (has : Bool) → nat_lt 0 (escape_letter x) ≡ has → IsFeedless (cond has short (cond (nat_lt x 32) hex (x ∷ [])))
  either_feedless true e = short_feedless
  either_feedless false e = long_feedless (nat_lt x 32) (itself e)

  byte_feedless : IsFeedless (escape_byte x)
  unfolding escape_byte
  byte_feedless = either_feedless (nat_lt 0 (escape_letter x)) refl

quoted_feedless : (text : List ℕ) → IsFeedless (quoted text)
quoted_feedless text = feedless-append (escape text) (34 ∷ []) (escaped text) refl
  where
    escaped : (xs : List ℕ) → IsFeedless (escape xs)
    escaped [] = refl
    escaped (x ∷ xs) = feedless-append (escape_byte x) (escape xs) (byte_feedless x) (escaped xs)

-- ---- values
comma_feedless : (later : Bool) → IsFeedless (comma_if later)
comma_feedless true = refl
comma_feedless false = refl

mutual
  pub value_feedless : (d : Data) → IsFeedless (compact_text d)
  value_feedless null = refl
  value_feedless (boolean true) = refl
  value_feedless (boolean false) = refl
  value_feedless (number n) = number_feedless n
  value_feedless (string s) = quoted_feedless s
  value_feedless (array ds) = items_feedless false ds
  value_feedless (object ms) = members_feedless false ms

  items_feedless : (later : Bool) (ds : Items) → IsFeedless (items_text later ds)
  items_feedless later no_items = refl
  items_feedless later (item d ds) =
      let more : List ℕ = compact_text d ++ items_text true ds in
      feedless-append (comma_if later) more (comma_feedless later) (feedless-append (compact_text d) (items_text true ds) (value_feedless d) (items_feedless true ds))

  members_feedless : (later : Bool) (ms : Members) → IsFeedless (members_text later ms)
  members_feedless later no_members = refl
  members_feedless later (member k d ms) =
      let more : List ℕ = compact_text d ++ members_text true ms in
      feedless-append (comma_if later) (quoted k ++ 58 ∷ more) (comma_feedless later)
      (feedless-append (quoted k) (58 ∷ more) (quoted_feedless k) (feedless-append (compact_text d) (members_text true ms) (value_feedless d) (members_feedless true ms)))
