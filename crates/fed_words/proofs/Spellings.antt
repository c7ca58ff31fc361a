-- Words, one after another.
use Rattle.std.proofs.Common.{◌≡◌, ℕ, zero, suc, ◌-◌, ◌<◌, true, false, ◌==◌, nat_lt, List, [], ◌∷◌, ◌++◌, length, get_or, take, drop, length-drop, codes, Bor, refl, ap, sym, ◌∙◌, arith}
use Rattle.std.specs.Str.{bytes_eq}
use Rattle.std.proofs.Math.Seq.{take-length}
use Rattle.std.proofs.Math.Bool.{and-false}
use Rattle.std.proofs.lemmas.Bool.Decides.{nat_tests}
use Rattle.std.proofs.lemmas.List.{drop-map}
use Rattle.fed_words.specs.Item.{words_of}
use Rattle.fed_words.specs.Spelling.{Item, Spelling, is_options}

abbrev pub Words : Type 0
Words = List (List ℕ)

abbrev pub with_items : List Item → Spelling Words → Spelling Words
with_items items s = record { items = items ++ s.items; rest = s.rest }

pub words_of-drop : (k : ℕ) (words : List (Bor (List ℕ))) → words_of (drop k words) ≡ drop k (words_of words)
words_of-drop k words = sym (drop-map (λ word. word.now) k words)

-- the words from an index on, as a slice of them
pub rest_words : (words : List (Bor (List ℕ))) (k : ℕ) → words_of (take (length words - k) (drop k words)) ≡ drop k (words_of words)
rest_words words k = rw (sym (length-drop k words)) (ap words_of (take-length (drop k words)) ∙ words_of-drop k words)

-- the word at an index
pub word_at : (words : List (Bor (List ℕ))) (k : ℕ) (d : Bor (List ℕ)) → k < length words → (k < length (words_of words)) × ((get_or words k d).now ≡ get_or (words_of words) k (get_or words k d).now)
word_at [] k d within = absurd (omega arith)
word_at (word ∷ words) zero d within = (omega arith, refl)
word_at (word ∷ words) (suc k) d within = let next = word_at words k d (omega arith) in (omega (arith, next.0), next.1)

-- ---- words that are not of options
pub not_dashes : (word : List ℕ) → is_options word ≡ false → bytes_eq word (codes "--") ≡ false
not_dashes [] e = refl
not_dashes (b ∷ []) e = and-false (b == 45)
not_dashes (b ∷ c ∷ bytes) e =
    let two : nat_lt 1 (suc (suc (length bytes))) ≡ true = grind (arith, nat_tests) in
    let other : (b == 45) ≡ false = rw two at e in
    rw other refl
