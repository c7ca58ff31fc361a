-- The lines of an input that comes in parts.
use Rattle.std.proofs.Common.{◌≡◌, inl, inr, ℕ, ◌+◌, ◌-◌, ◌<◌, ◌==◌, Bool, true, false, List, [], ◌∷◌, ◌++◌, length, map, take, refl, sym, ap, subst, ◌∙◌, arith, append_assoc}
use Rattle.std.specs.Prelude.{codes, nat_eq, slice_index, if◌then◌else◌}
use Rattle.std.specs.Cmp.Lexicographic.{pointwise}
use Rattle.std.specs.List.{slice_split, onto_first}
use Rattle.std.specs.Str.Lines.{lines, lines_of_parts as text_lines_of_parts, strip_carriage_return}
use Rattle.std.proofs.lemmas.Bool.{cases_Bool, cases_lt, lt-leb}
use Rattle.std.proofs.lemmas.List.Elements.{All-append, All-head, All-tail, All-take}
use Rattle.std.proofs.lemmas.Bool.Decides.{nat_tests}
use Rattle.std.proofs.lemmas.List.{append-nil, length-append, length-take, take-append-le, take-take, take_all}
use Rattle.std.proofs.lemmas.List.Splits.{slice_split-cons_yes, slice_split-cons_no}
use Rattle.fed_serve.specs.Inputs.{EndsLines, HasNoLineFeed, cut_line, given_as, is_take, lines_in, lines_of_parts, most_bytes, most_bytes_of_a_take, most_bytes_of, unreadable}

abbrev is_feed : ℕ → Bool
is_feed byte = byte == 10

abbrev parts : List ℕ → List (List ℕ)
parts text = slice_split is_feed text

-- a part, and those behind it
record Parts (text : List ℕ) : Type 0 where
  first : List ℕ
  more : List (List ℕ)
  is : parts text ≡ first ∷ more

some_parts : (text : List ℕ) → Parts text
some_parts [] = record { first = []; more = []; is = refl }
some_parts (x ∷ text) = elim (cases_Bool (is_feed x)) [
  | inl feed ↦ record { first = []; more = parts text; is = slice_split-cons_yes is_feed x text feed }
  | inr other ↦
      let rest = some_parts text in
      record { first = x ∷ rest.first; more = rest.more; is = slice_split-cons_no is_feed x text other ∙ ap (onto_first x) rest.is }
]

onto_both : (x : ℕ) (ps qs : List (List ℕ)) (text : List ℕ) → parts text ≡ ps → onto_first x (ps ++ qs) ≡ onto_first x ps ++ qs
onto_both x [] qs text is = let some = some_parts text in let bad = sym is ∙ some.is in cc
onto_both x (p ∷ ps) qs text is = refl

-- the parts of two texts with a line feed between them
parts_both : (front more : List ℕ) → parts (front ++ 10 ∷ more) ≡ parts front ++ parts more
parts_both [] more = refl
parts_both (x ∷ front) more = elim (cases_Bool (is_feed x)) [
  | inl feed ↦ slice_split-cons_yes is_feed x (front ++ 10 ∷ more) feed ∙ ap (λ ps. [] ∷ ps) (parts_both front more) ∙ sym (ap (λ ps. ps ++ parts more) (slice_split-cons_yes is_feed x front feed))
  | inr other ↦ slice_split-cons_no is_feed x (front ++ 10 ∷ more) other ∙ ap (onto_first x) (parts_both front more) ∙ onto_both x (parts front) (parts more) front refl
      ∙ sym (ap (λ ps. ps ++ parts more) (slice_split-cons_no is_feed x front other))
]

-- a line that has its line feed, as it is given
abbrev ended : List ℕ → List ℕ
ended line = given_as (strip_carriage_return line)

lines_both : (ps : List (List ℕ)) (q : List ℕ) (qs : List (List ℕ)) → lines_of_parts (ps ++ q ∷ qs) ≡ map ended ps ++ lines_of_parts (q ∷ qs)
lines_both [] q qs = refl
lines_both (p ∷ []) q qs = refl
lines_both (p ∷ next ∷ ps) q qs = ap (λ ls. ended p ∷ ls) (lines_both (next ∷ ps) q qs)

lines_behind : (front more : List ℕ) → lines_in (front ++ 10 ∷ more) ≡ map ended (parts front) ++ lines_in more
lines_behind front more =
    let some = some_parts more in
    ap lines_of_parts (parts_both front more) ∙ ap (λ qs. lines_of_parts (parts front ++ qs)) some.is ∙ lines_both (parts front) some.first some.more
    ∙ sym (ap (λ qs. map ended (parts front) ++ lines_of_parts qs) some.is)

-- whole lines, and what comes behind them
pub lines_in-whole : (whole more : List ℕ) → EndsLines whole → lines_in (whole ++ more) ≡ lines_in whole ++ lines_in more
lines_in-whole whole more (inl none) = rw none refl
lines_in-whole whole more (inr ends) =
    let front = ends.0 in
    ap (λ t. lines_in (t ++ more)) ends.1 ∙ ap lines_in (append_assoc front (10 ∷ []) more) ∙ lines_behind front more
    ∙ ap (λ ls. ls ++ lines_in more) (sym (append-nil (map ended (parts front))) ∙ sym (lines_behind front [])) ∙ sym (ap (λ t. lines_in t ++ lines_in more) ends.1)

-- the lines of a text are those that are given of it, where each has its line feed
text_both : (ps : List (List ℕ)) → map given_as (text_lines_of_parts (ps ++ [] ∷ [])) ≡ map ended ps ++ []
text_both [] = refl
text_both (p ∷ []) = refl
text_both (p ∷ next ∷ ps) = ap (λ ls. ended p ∷ ls) (text_both (next ∷ ps))

pub whole_lines : (text : List ℕ) → EndsLines text → lines_in text ≡ map given_as (lines text)
whole_lines text (inl none) = rw none refl
whole_lines text (inr ends) =
    let front = ends.0 in
    ap lines_in ends.1 ∙ lines_behind front [] ∙ sym (text_both (parts front)) ∙ sym (ap (λ ps. map given_as (text_lines_of_parts ps)) (parts_both front [])) ∙ sym (ap (λ t. map given_as (lines t)) ends.1)

-- ---- a line that is too long
-- what a line may have is told by its first bytes
most_front : (begun more : List ℕ) → 4 < length begun → most_bytes_of (begun ++ more) ≡ most_bytes_of begun
most_front begun more long = ap (λ (bs : List ℕ). if pointwise nat_eq (codes "take ") bs then most_bytes_of_a_take else most_bytes) (take-append-le 5 begun more (omega (arith, long)))

most_cut : (n : ℕ) (line : List ℕ) → 4 < n → most_bytes_of (take n line) ≡ most_bytes_of line
most_cut n line long = ap (λ (bs : List ℕ). if pointwise nat_eq (codes "take ") bs then most_bytes_of_a_take else most_bytes) (take-take 5 n line (omega (arith, long)))

most_strip : (line : List ℕ) → 5 < length line → most_bytes_of (strip_carriage_return line) ≡ most_bytes_of line
most_strip line long = cases (slice_index line (length line - 1) == 13)
  where
    cases : (b : Bool) → most_bytes_of (if b then take (length line - 1) line else line) ≡ most_bytes_of line
    cases true = most_cut (length line - 1) line (omega (arith, long))
    cases false = refl

most_some : (line : List ℕ) → 5 < most_bytes_of line
most_some line = cases (is_take line)
  where
    cases : (b : Bool) → 5 < (if b then most_bytes_of_a_take else most_bytes)
    cases true = omega arith
    cases false = omega arith

long_given : (line : List ℕ) → most_bytes_of line < length line → given_as line ≡ unreadable
long_given line long = rw (lt-leb (length line) (most_bytes_of line) long) refl

strip_long : (line : List ℕ) (most : ℕ) → most + 1 < length line → most < length (strip_carriage_return line)
strip_long line most long = cases (slice_index line (length line - 1) == 13)
  where
    cases : (b : Bool) → most < length (if b then take (length line - 1) line else line)
    cases true = omega (arith, long, length-take (length line - 1) line)
    cases false = omega (arith, long)

long_ended : (line : List ℕ) → most_bytes_of line + 1 < length line → ended line ≡ unreadable
long_ended line long =
    let some = most_some line in
    long_given (strip_carriage_return line) (subst (λ most. most < length (strip_carriage_return line)) (sym (most_strip line (omega (arith, long, some)))) (strip_long line (most_bytes_of line) long))

some_bytes : (n : ℕ) → 0 < n → (n == 0) ≡ false
some_bytes n h = grind (arith, nat_tests, h)

-- the first line of such parts is one that can't be read, whatever it is
long_first : (one two : List ℕ) (qs : List (List ℕ)) → most_bytes_of one + 1 < length one → most_bytes_of two + 1 < length two
    → lines_of_parts (one ∷ qs) ≡ lines_of_parts (two ∷ qs)
long_first one two [] long longer = rw (some_bytes (length one) (omega (arith, long)), some_bytes (length two) (omega (arith, longer))) refl
long_first one two (q ∷ qs) long longer = ap (λ (l : List ℕ). l ∷ lines_of_parts (q ∷ qs)) (long_ended one long ∙ sym (long_ended two longer))

-- what has begun of a line is in the first part
parts_begun : (begun more first : List ℕ) (rest : List (List ℕ)) → HasNoLineFeed begun → parts more ≡ first ∷ rest → parts (begun ++ more) ≡ (begun ++ first) ∷ rest
parts_begun [] more first rest none is = is
parts_begun (x ∷ begun) more first rest none is =
    slice_split-cons_no is_feed x (begun ++ more) (All-head (λ byte. (byte == 10) ≡ false) x begun none)
    ∙ ap (onto_first x) (parts_begun begun more first rest (All-tail (λ byte. (byte == 10) ≡ false) x begun none) is)

-- what has begun of a line and isn't at its end
pub lines_in-begun : (begun : List ℕ) → HasNoLineFeed begun → lines_in begun ≡ cut_line begun
lines_in-begun begun none = ap lines_in (sym (append-nil begun)) ∙ ap lines_of_parts (parts_begun begun [] [] [] none refl) ∙ ap cut_line (append-nil begun)

-- the end of a line that is too long may be left out
pub lines_in-cut : (begun more : List ℕ) → HasNoLineFeed begun → lines_in (take (most_bytes_of begun + 2) begun ++ more) ≡ lines_in (begun ++ more)
lines_in-cut begun more none = elim (cases_lt (most_bytes_of begun + 2) (length begun)) [
  | inr short ↦ ap (λ (b : List ℕ). lines_in (b ++ more)) (take_all (most_bytes_of begun + 2) begun short)
  | inl long ↦
      let some = some_parts more in
      let room = most_some begun in
      let cut = take (most_bytes_of begun + 2) begun in
      let cut_len : length cut ≡ most_bytes_of begun + 2 = omega (arith, long, length-take (most_bytes_of begun + 2) begun) in
      let most_of_cut : most_bytes_of (cut ++ some.first) ≡ most_bytes_of begun = most_front cut some.first (omega (arith, cut_len, room)) ∙ most_cut (most_bytes_of begun + 2) begun (omega (arith, room)) in
      let most_of_begun : most_bytes_of (begun ++ some.first) ≡ most_bytes_of begun = most_front begun some.first (omega (arith, long, room)) in
      let long_cut : most_bytes_of (cut ++ some.first) + 1 < length (cut ++ some.first) = omega (arith, cut_len, most_of_cut, length-append cut some.first) in
      let long_begun : most_bytes_of (begun ++ some.first) + 1 < length (begun ++ some.first) = omega (arith, long, most_of_begun, length-append begun some.first) in
      ap lines_of_parts (parts_begun cut more some.first some.more (All-take (λ byte. (byte == 10) ≡ false) (most_bytes_of begun + 2) begun none) some.is)
      ∙ long_first (cut ++ some.first) (begun ++ some.first) some.more long_cut long_begun
      ∙ sym (ap lines_of_parts (parts_begun begun more some.first some.more none some.is))
]

-- ---- a chunk of the input
-- these lines are taken of what had begun and a chunk, and this has begun behind them
pub record Takes (begun chunk taken left : List ℕ) : Type 0 where
  pub lines : (more : List ℕ) → lines_in (begun ++ (chunk ++ more)) ≡ lines_in taken ++ lines_in (left ++ more)
  pub whole : EndsLines taken
  pub none : HasNoLineFeed left

behind_begun : (begun whole : List ℕ) → EndsLines whole → (length whole == 0) ≡ false → EndsLines (begun ++ whole)
behind_begun begun whole (inl none) some = let bad : (length {A = ℕ} [] == 0) ≡ false = subst (λ (w : List ℕ). (length w == 0) ≡ false) none some in absurd cc
behind_begun begun whole (inr ends) some = inr (begun ++ ends.0, ap (λ w. begun ++ w) ends.1 ∙ sym (append_assoc begun ends.0 (10 ∷ [])))

cut_none : (text : List ℕ) → HasNoLineFeed text → HasNoLineFeed (take (most_bytes_of text + 2) text)
cut_none text none = All-take (λ byte. (byte == 10) ≡ false) (most_bytes_of text + 2) text none

pub takes_some : (begun chunk whole rest taken left : List ℕ) → chunk ≡ whole ++ rest → EndsLines whole → HasNoLineFeed rest → (length whole == 0) ≡ false → taken ≡ begun ++ whole
    → left ≡ take (most_bytes_of rest + 2) rest → Takes begun chunk taken left
takes_some begun chunk whole rest taken left cut ends none some taken_is left_is = record {
  lines = λ more.
      ap (λ (c : List ℕ). lines_in (begun ++ (c ++ more))) cut ∙ ap (λ (t : List ℕ). lines_in (begun ++ t)) (append_assoc whole rest more) ∙ ap lines_in (sym (append_assoc begun whole (rest ++ more)))
      ∙ lines_in-whole (begun ++ whole) (rest ++ more) (behind_begun begun whole ends some)
      ∙ ap (λ (ls : List (List ℕ)). lines_in (begun ++ whole) ++ ls) (sym (lines_in-cut rest more none))
      ∙ sym (λ i. lines_in (taken_is i) ++ lines_in (left_is i ++ more));
  whole = subst EndsLines (sym taken_is) (behind_begun begun whole ends some);
  none = subst HasNoLineFeed (sym left_is) (cut_none rest none);
}

no_bytes : (text : List ℕ) → (length text == 0) ≡ true → text ≡ []
no_bytes [] e = refl
no_bytes (x ∷ text) e = absurd (omega (arith, eqb_true (length (x ∷ text)) 0 e))
  where
    eqb_true : (m n : ℕ) → (m == n) ≡ true → m ≡ n
    eqb_true m n h = grind (arith, nat_tests, h)

pub takes_none : (begun chunk whole rest taken left : List ℕ) → chunk ≡ whole ++ rest → HasNoLineFeed begun → HasNoLineFeed rest → (length whole == 0) ≡ true → taken ≡ []
    → left ≡ take (most_bytes_of (begun ++ rest) + 2) (begun ++ rest) → Takes begun chunk taken left
takes_none begun chunk whole rest taken left cut before none empty taken_is left_is =
    let all = All-append (λ byte. (byte == 10) ≡ false) begun rest before none in
    record {
      lines = λ more.
          ap (λ (c : List ℕ). lines_in (begun ++ (c ++ more))) (cut ∙ ap (λ (w : List ℕ). w ++ rest) (no_bytes whole empty)) ∙ ap lines_in (sym (append_assoc begun rest more)) ∙ sym (lines_in-cut (begun ++ rest) more all)
          ∙ sym (λ i. lines_in (taken_is i) ++ lines_in (left_is i ++ more));
      whole = inl taken_is;
      none = subst HasNoLineFeed (sym left_is) (cut_none (begun ++ rest) all);
    }
