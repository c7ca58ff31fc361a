-- The columns of the short listing, as they are written one after another.
use Rattle.std.proofs.Common.{◌≡◌, ℕ, suc, zero, add-one, ◌+◌, ◌-◌, ◌^◌, ◌≤◌, ◌∙◌, take, drop, sym, get_or, subst, Option, Some, None, option_map, unwrap_or, ◌<◌, Bool, true, false, cond, List, [], ◌∷◌, ◌++◌, length, replicate, refl, ap, arith, append_assoc}
use Rattle.std.specs.Fmt.{decimal, char_count, is_char_start}
use Rattle.std.specs.List.{All, join_with_byte}
use Rattle.std.specs.Prelude.{slice_get}
use Rattle.std.specs.Str.{IsAscii, IsUtf8}
use Rattle.std.proofs.lemmas.Bool.{and_parts}
use Rattle.std.proofs.lemmas.Bool.Decides.{nat_tests}
use Rattle.std.proofs.lemmas.Fmt.{IsAscii-decimal}
use Rattle.std.proofs.lemmas.List.{take-append-drop}
use Rattle.std.proofs.lemmas.List.Elements.{All-head, All-tail}
use Rattle.std.proofs.lemmas.Option.{get_or_from_slice_get, slice_get_within}
use Rattle.std.proofs.lemmas.Str.{IsAscii-append, IsUtf8-from_ascii}
use Rattle.std.proofs.lemmas.Str.Ascii.{All-from_ascii, IsAscii-cons, IsAscii-nil}
use Rattle.fed_stamp.specs.Roster.{IsRoster, is_site_name}
use Rattle.fed_stamp.proofs.WordLemmas.{name_ascii}
use Rattle.fed_stamp.specs.Stamp.{StampValue}
use Rattle.fed_stamp.specs.Word.{is_name}
use Rattle.fed_qstat.specs.Columns.{left_in, right_in}
use Rattle.fed_qstat.specs.Identifier.{text_of_identifier, text_of_site}

-- the parts of a line, and its line feed
pub join-parts : (a b c d e f g h : List ℕ) → join_with_byte 32 (a ∷ b ∷ c ∷ d ∷ []) ++ ((32 ∷ (join_with_byte 32 (e ∷ f ∷ g ∷ []) ++ 32 ∷ [])) ++ (h ++ 10 ∷ [])) ≡ join_with_byte 32 (a ∷ b ∷ c ∷ d ∷ e ∷ f ∷ g ∷ h ∷ []) ++ 10 ∷ []
join-parts a b c d e f g h = simp append_assoc

-- a line that is written part by part behind a text
pub line-of_parts : (old a b c d names numbers granted end : List ℕ) → a ≡ old ++ names → b ≡ a ++ numbers → c ≡ b ++ granted → d ≡ c ++ end → end ≡ 10 ∷ [] → d ≡ old ++ (names ++ (numbers ++ (granted ++ 10 ∷ [])))
line-of_parts old a b c d names numbers granted end first then second last is_end =
    rw (last, second, then, first, is_end) (simp append_assoc refl)

-- ---- columns that are written as a text and spaces
ascii_step : (first : Bool) (n : ℕ) → first ≡ true → cond first 1 0 + n ≡ suc n
ascii_step true n e = omega arith
ascii_step false n e = absurd cc

start_byte : (b : ℕ) → b < 128 → is_char_start b ≡ true
start_byte b small = grind (arith, nat_tests)

-- ASCII text has a character for each byte
ascii_count : (text : List ℕ) → All (λ b. b < 128) text → char_count text ≡ length text
unfolding char_count
ascii_count [] small = refl
ascii_count (b ∷ text) small =
    ascii_step (is_char_start b) (char_count text) (start_byte b (All-head (λ x. x < 128) b text small))
    ∙ ap suc (ascii_count text (All-tail (λ x. x < 128) b text small))

replicate-last : (n b : ℕ) → replicate (suc n) b ≡ replicate n b ++ b ∷ []
replicate-last zero b = refl
replicate-last (suc n) b = ap (λ l. b ∷ l) (replicate-last n b)

-- a text, and spaces up to a width and one more
pub left-of_ascii : (width count : ℕ) (old text a b : List ℕ) → IsAscii text → a ≡ old ++ text → count ≡ (width - length text) + 1 → b ≡ a ++ replicate count 32 → b ≡ old ++ (left_in width text ++ 32 ∷ [])
left-of_ascii width count old text a b ascii first few then =
    let chars : char_count text ≡ length text = ascii_count text (All-from_ascii text ascii) in
    rw (then, first, few, chars, add-one, replicate-last (width - length text) 32) (simp append_assoc refl)

-- the text of an identifier is ASCII
site_name_ascii : (name : List ℕ) → is_site_name name ≡ true → IsAscii name
unfolding is_site_name
site_name_ascii name e = name_ascii name (and_parts (is_name name) _ e).0

site_ascii : (roster : List (List ℕ × ℕ)) (site : ℕ) (found : Option (List ℕ × ℕ)) → IsRoster roster → slice_get roster site ≡ found → site < 2 ^ 64 → IsAscii (unwrap_or (option_map (λ s. s.0) found) (35 ∷ decimal site))
site_ascii roster site None lawful e small = IsAscii-cons 35 (decimal site) (omega arith) (IsAscii-decimal site small)
site_ascii roster site (Some s) lawful e small =
    let named : is_site_name (get_or roster site ([], 0)).0 ≡ true = lawful.named site ([], 0) (slice_get_within roster site s e) in
    site_name_ascii s.0 (subst (λ (t : List ℕ × ℕ). is_site_name t.0 ≡ true) (get_or_from_slice_get roster site s ([], 0) e) named)

pub identifier_ascii : (roster : List (List ℕ × ℕ)) (id : StampValue) → IsRoster roster → id.counter < 2 ^ 64 → id.site < 2 ^ 64 → IsAscii (text_of_identifier roster id)
identifier_ascii roster id lawful small place =
    IsAscii-append (decimal id.counter) (46 ∷ text_of_site roster id.site) (IsAscii-decimal id.counter small)
    (IsAscii-cons 46 (text_of_site roster id.site) (omega arith) (site_ascii roster id.site (slice_get roster id.site) lawful refl place))

-- ---- numbers that are written into a row of spaces
replicate-split : (a b : ℕ) → replicate {A = ℕ} (a + suc b) 32 ≡ replicate a 32 ++ 32 ∷ replicate b 32
replicate-split zero b = let less : 0 + suc b ≡ suc b = omega arith in rw less refl
replicate-split (suc a) b = let more : suc a + suc b ≡ suc (a + suc b) = omega arith in rw more (ap (λ l. 32 ∷ l) (replicate-split a b))

take-spaces : (n m : ℕ) (rest : List ℕ) → n ≤ m → take n (replicate m 32 ++ rest) ≡ replicate n 32
take-spaces zero m rest low = refl
take-spaces (suc n) zero rest low = absurd (omega arith)
take-spaces (suc n) (suc m) rest low = ap (λ l. 32 ∷ l) (take-spaces n m rest (omega arith))

drop-spaces : (n : ℕ) (rest : List ℕ) → drop n (replicate n 32 ++ rest) ≡ rest
drop-spaces zero rest = refl
drop-spaces (suc n) rest = drop-spaces n rest

pub right-written : (start end width : ℕ) (old new digits rest : List ℕ) → start + length digits ≡ end → drop start new ≡ digits ++ drop end old → take start new ≡ take start old → length digits ≤ width → width < end
    → old ≡ replicate end 32 ++ rest → new ≡ replicate (end - (width + 1)) 32 ++ (32 ∷ right_in width digits ++ rest)
right-written start end width old new digits rest place behind front fits column is =
    let spaces : start ≡ (end - (width + 1)) + suc (width - length digits) = omega arith in
    let ahead : take start new ≡ replicate (end - (width + 1)) 32 ++ 32 ∷ replicate (width - length digits) 32 =
    front ∙ ap (take start) is ∙ take-spaces start end rest (omega arith) ∙ ap (λ n. replicate n 32) spaces ∙ replicate-split (end - (width + 1)) (width - length digits) in
    let after : drop start new ≡ digits ++ rest = behind ∙ ap (λ l. digits ++ drop end l) is ∙ ap (λ l. digits ++ l) (drop-spaces end rest) in
    sym (take-append-drop start new) ∙ rw (ahead, after) (simp append_assoc refl)

spaces_ascii : (n : ℕ) → IsAscii (replicate n 32)
spaces_ascii zero = IsAscii-nil
spaces_ascii (suc n) = IsAscii-cons 32 (replicate n 32) (omega arith) (spaces_ascii n)

right_ascii : (width n : ℕ) → n < 2 ^ 64 → IsAscii (32 ∷ right_in width (decimal n))
right_ascii width n small = IsAscii-cons 32 (right_in width (decimal n)) (omega arith) (IsAscii-append (replicate (width - length (decimal n)) 32) (decimal n) (spaces_ascii (width - length (decimal n))) (IsAscii-decimal n small))

numbers_ascii : (nodes limit : ℕ) → nodes < 2 ^ 64 → limit < 2 ^ 64 → IsAscii (32 ∷ right_in 8 (decimal nodes) ++ (32 ∷ right_in 9 (decimal limit) ++ 32 ∷ []))
numbers_ascii nodes limit small little =
    IsAscii-append (32 ∷ right_in 8 (decimal nodes)) (32 ∷ right_in 9 (decimal limit) ++ 32 ∷ []) (right_ascii 8 nodes small)
    (IsAscii-append (32 ∷ right_in 9 (decimal limit)) (32 ∷ []) (right_ascii 9 limit little) (IsAscii-cons 32 [] (omega arith) IsAscii-nil))

-- a row of these two numbers is text
pub numbers_are_text : (row : List ℕ) (nodes limit : ℕ) → nodes < 2 ^ 64 → limit < 2 ^ 64 → row ≡ 32 ∷ right_in 8 (decimal nodes) ++ (32 ∷ right_in 9 (decimal limit) ++ 32 ∷ []) → IsUtf8 row
numbers_are_text row nodes limit small little is =
    rw is (IsUtf8-from_ascii (32 ∷ right_in 8 (decimal nodes) ++ (32 ∷ right_in 9 (decimal limit) ++ 32 ∷ [])) (numbers_ascii nodes limit small little))
