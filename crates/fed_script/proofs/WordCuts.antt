-- The words of a line, cut off one after another.
use Rattle.std.proofs.Common.{◌≡◌, ℕ, ◌⊎◌, ◌+◌, ◌-◌, ◌<◌, ◌≤◌, true, false, List, [], ◌∷◌, ◌++◌, length, get_or, take, drop, refl, ap, sym, ◌∙◌, arith, append_assoc, append-nil, nat_lt, inl, inr}
use Rattle.std.specs.List.{All, filter, slice_split}
use Rattle.std.specs.Char.{is_ascii_whitespace}
use Rattle.std.proofs.lemmas.Bool.{cases_lt}
use Rattle.std.proofs.lemmas.Grind.{common_steps}
use Rattle.std.proofs.lemmas.List.{drop-take}
use Rattle.std.proofs.lemmas.List.Elements.{All-drop, All-from_get_or}
use Rattle.std.proofs.lemmas.List.Splits.{slice_split_at, slice_split_none}
use Rattle.std.proofs.lemmas.List.Sums.{AllPass-from_list_all, list_all-from_AllPass}
use Rattle.std.proofs.lemmas.Bool.Decides.{nat_tests}
use Rattle.fed_script.specs.Lines.{is_readable, is_readable_byte, words_of}

-- what stands behind a part of what can be read
pub readable-drop : (k : ℕ) (line : List ℕ) → is_readable line ≡ true → is_readable (drop k line) ≡ true
readable-drop k line e = list_all-from_AllPass is_readable_byte (drop k line) (All-drop (λ b. is_readable_byte b ≡ true) k line (AllPass-from_list_all is_readable_byte line e))

-- no white space stands from one place up to another
abbrev pub IsSolid : List ℕ → ℕ → ℕ → Type 0
IsSolid line start end = (k : ℕ) → start ≤ k → k < end → is_ascii_whitespace (get_or line k 0) ≡ false

taken_solid : (line : List ℕ) (start n : ℕ) → start + n ≤ length line → IsSolid line start (start + n) → All (λ b. is_ascii_whitespace b ≡ false) (take n (drop start line))
taken_solid line start n within solid = All-from_get_or (λ b. is_ascii_whitespace b ≡ false) (take n (drop start line)) 0 (λ i low.
    let few : i < n = grind (arith, common_steps) in
    let here : get_or (take n (drop start line)) i 0 ≡ get_or line (start + i) 0 = grind (arith, common_steps) in
    rw here (solid (start + i) (omega arith) (omega arith)))

-- white space at a place, behind a word that began at another or behind none
module _ (line : List ℕ) (start n : ℕ) (inside : start + n < length line) (solid : IsSolid line start (start + n)) (white : is_ascii_whitespace (get_or line (start + n) 0) ≡ true) where
  parts : drop start line ≡ take n (drop start line) ++ get_or line (start + n) 0 ∷ drop (start + n + 1) line
  parts = grind (arith, common_steps)

  split : slice_split is_ascii_whitespace (drop start line) ≡ take n (drop start line) ∷ slice_split is_ascii_whitespace (drop (start + n + 1) line)
  split =
      ap (slice_split is_ascii_whitespace) parts
      ∙ slice_split_at is_ascii_whitespace (take n (drop start line)) (get_or line (start + n) 0) (drop (start + n + 1) line) (taken_solid line start n (omega arith) solid) white

  pub words_of-word : 0 < n → words_of (drop start line) ≡ take n (drop start line) ∷ words_of (drop (start + n + 1) line)
  words_of-word some =
      let kept : nat_lt 0 (length (take n (drop start line))) ≡ true = grind (arith, common_steps) in
      ap (filter (λ w. nat_lt 0 (length w))) split ∙ rw kept refl

  pub words_of-blank : n ≡ 0 → words_of (drop start line) ≡ words_of (drop (start + n + 1) line)
  words_of-blank none =
      let empty : nat_lt 0 (length (take n (drop start line))) ≡ false = grind (arith, common_steps) in
      ap (filter (λ w. nat_lt 0 (length w))) split ∙ rw empty refl

pub to_the_end : (line : List ℕ) (start : ℕ) → take (length line - start) (drop start line) ≡ drop start line
to_the_end line start = grind (arith, common_steps)

-- the last word
pub words_of-end : (line : List ℕ) (start : ℕ) → start < length line → IsSolid line start (length line) → words_of (drop start line) ≡ drop start line ∷ []
words_of-end line start more solid =
    let all = to_the_end line start in
    let last : start + (length line - start) ≡ length line = omega arith in
    let some : nat_lt 0 (length (drop start line)) ≡ true = grind (arith, common_steps) in
    let whole : IsSolid line start (start + (length line - start)) = rw last solid in
    ap (filter (λ w. nat_lt 0 (length w))) (slice_split_none is_ascii_whitespace (drop start line) (rw all at (taken_solid line start (length line - start) (omega arith) whole)))
    ∙ rw some refl

pub readable-more : (line : List ℕ) (k : ℕ) → k < length line → is_readable (take k line) ≡ true → is_readable_byte (get_or line k 0) ≡ true → is_readable (take (k + 1) line) ≡ true
readable-more line k within e here = grind (arith, common_steps)

-- ---- what was cut off
white_byte : (b : ℕ) → (b ≡ 9) ⊎ (b ≡ 32) → (is_ascii_whitespace b ≡ true) × (is_readable_byte b ≡ true)
white_byte b (inl e) = rw e (refl, refl)
white_byte b (inr e) = rw e (refl, refl)

word_byte : (b : ℕ) → 33 ≤ b → b ≤ 126 → (is_ascii_whitespace b ≡ false) × (is_readable_byte b ≡ true)
word_byte b low high = (grind (arith, nat_tests), grind (arith, nat_tests))

-- these words were cut off a text of which all before one place can be read, and a word may have begun at another
pub record AreCut (text : List ℕ) (words : List (List ℕ)) (start index : ℕ) : Type 0 where
  pub cut : words ++ words_of (drop start text) ≡ words_of text
  pub readable : is_readable (take index text) ≡ true
  pub solid : IsSolid text start index
  pub behind : start ≤ index

pub AreCut-none : (text : List ℕ) → AreCut text [] 0 0
AreCut-none text = record { cut = refl; readable = refl; solid = λ k low high. absurd (omega arith); behind = omega arith }

-- a word that was cut off can be read
pub AreCut-readable_word : (text : List ℕ) (words : List (List ℕ)) (start index : ℕ) (word : List ℕ) → AreCut text words start index → word ≡ take (index - start) (drop start text) → is_readable word ≡ true
AreCut-readable_word text words start index word h is =
    let whole : index ≡ start + (index - start) = omega (arith, h.behind) in
    ap is_readable (is ∙ sym (drop-take start (index - start) text) ∙ ap (λ n. drop start (take n text)) (sym whole))
    ∙ readable-drop start (take index text) h.readable

module _ (text : List ℕ) (words : List (List ℕ)) (start index : ℕ) (within : index < length text) (h : AreCut text words start index) where
  pub AreCut-more : 33 ≤ get_or text index 0 → get_or text index 0 ≤ 126 → AreCut text words start (index + 1)
  AreCut-more low high = record {
    cut = h.cut;
    readable = readable-more text index within h.readable (word_byte (get_or text index 0) low high).1;
    solid = λ k from below. elim (cases_lt k index) [
      | inl before ↦ h.solid k from before
      | inr here ↦ let same : k ≡ index = omega arith in rw same (word_byte (get_or text index 0) low high).0
    ];
    behind = omega (arith, h.behind);
  }

  module _ (white : (get_or text index 0 ≡ 9) ⊎ (get_or text index 0 ≡ 32)) where
    whole : start + (index - start) ≡ index
    whole = omega (arith, h.behind)

    pub AreCut-word : (word : List ℕ) → start < index → word ≡ take (index - start) (drop start text) → AreCut text (words ++ word ∷ []) (index + 1) (index + 1)
    AreCut-word word some is = record {
      cut = append_assoc words (word ∷ []) (words_of (drop (index + 1) text))
          ∙ ap (λ l. words ++ l) (ap (λ w. w ∷ words_of (drop (index + 1) text)) is
          ∙ sym (rw whole at (words_of-word text start (index - start) (rw whole within) (rw whole h.solid) (rw whole (white_byte (get_or text index 0) white).0) (omega arith))))
          ∙ h.cut;
      readable = readable-more text index within h.readable (white_byte (get_or text index 0) white).1;
      solid = λ k from below. absurd (omega arith);
      behind = omega arith;
    }

    pub AreCut-blank : index ≤ start → AreCut text words (index + 1) (index + 1)
    AreCut-blank none = record {
      cut = ap (λ l. words ++ l) (sym (rw whole at (words_of-blank text start (index - start) (rw whole within) (rw whole h.solid) (rw whole (white_byte (get_or text index 0) white).0) (omega arith)))) ∙ h.cut;
      readable = readable-more text index within h.readable (white_byte (get_or text index 0) white).1;
      solid = λ k from below. absurd (omega arith);
      behind = omega arith;
    }

-- the text has ended
module _ (text : List ℕ) (words : List (List ℕ)) (start index : ℕ) (past : length text ≤ index) (within : index ≤ length text) (h : AreCut text words start index) where
  all : index ≡ length text
  all = omega arith

  pub AreCut-readable : is_readable text ≡ true
  AreCut-readable = let taken : take index text ≡ text = grind (arith, common_steps) in rw taken at h.readable

  pub AreCut-last : (word : List ℕ) → start < length text → word ≡ drop start text → words ++ word ∷ [] ≡ words_of text
  AreCut-last word more is =
      ap (λ l. words ++ l) (ap (λ w. w ∷ []) is ∙ sym (words_of-end text start more (rw all at h.solid))) ∙ h.cut

  pub AreCut-all : length text ≤ start → words ≡ words_of text
  AreCut-all none =
      let empty : drop start text ≡ [] = grind (arith, common_steps) in
      sym (append-nil words) ∙ rw empty at h.cut
