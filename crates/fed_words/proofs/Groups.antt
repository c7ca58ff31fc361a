-- The options of one word, letter by letter.
use Rattle.std.proofs.Common.{◌≡◌, ℕ, suc, ◌+◌, ◌<◌, ◌≤◌, true, false, List, [], ◌∷◌, ◌++◌, length, get_or, drop, Some, None, Ok, Err, refl, ap, sym, ◌∙◌, arith, lit<, inl, inr, add-one, drop-cons}
use Rattle.std.specs.Prelude.{◌==◌, nat_lt}
use Rattle.std.proofs.lemmas.Bool.{cases_lt}
use Rattle.std.proofs.lemmas.Bool.Decides.{nat_tests}
use Rattle.fed_words.specs.declared.faults.UsageFault.{UsageFault}
use Rattle.fed_words.specs.declared.settings.Settings.{Settings}
use Rattle.fed_words.specs.declared.utilities.Choice.{Choice}
use Rattle.fed_words.specs.declared.utilities.Utility.{Utility}
use Rattle.fed_words.specs.declared.utilities.Utility.TheVariants.{Qsub, Qalter, Qhold, Qrls, Qdel, Qstat}
use Rattle.fed_words.specs.Reading.{reading}
use Rattle.fed_words.specs.Setting.{settings_in}
use Rattle.fed_words.specs.Spelling.{Item, group}
use Rattle.fed_words.specs.Utility.{choice_of, takes_argument}
use Rattle.fed_words.proofs.Readings.{reading-end, reading-item, reading-wrong}

differs : (c k : ℕ) → 128 ≤ c → k < 128 → (c == k) ≡ false
differs c k h low = grind (arith, nat_tests)

-- letters are ASCII
none_above : (utility : Utility) (c : ℕ) → 128 ≤ c → choice_of utility c ≡ None
none_above Qsub c h = rw (differs c 65 h (lit< tt), differs c 104 h (lit< tt), differs c 108 h (lit< tt), differs c 78 h (lit< tt), differs c 112 h (lit< tt)) refl
none_above Qalter c h = rw (differs c 65 h (lit< tt), differs c 108 h (lit< tt), differs c 78 h (lit< tt), differs c 112 h (lit< tt)) refl
none_above Qhold c h = rw (differs c 104 h (lit< tt)) refl
none_above Qrls c h = rw (differs c 104 h (lit< tt)) refl
none_above Qdel c h = refl
none_above Qstat c h = rw (differs c 102 h (lit< tt)) refl

pub letter_is_low : (utility : Utility) (c : ℕ) (option : Choice) → choice_of utility c ≡ Some option → c < 128
letter_is_low utility c option e = elim (cases_lt c 128) [
  | inl low ↦ low
  | inr high ↦ let none = none_above utility c high in absurd cc
]

pub some_from : (n : ℕ) → false ≡ (n == 0) → 0 < n
some_from n e = grind (arith, nat_tests)

module _ (roster : List (List ℕ × ℕ)) (utility : Utility) (word : List ℕ) (k : ℕ) (items : List Item) where
  module _ (letter : ℕ) (within : k < length word) (here : letter ≡ get_or word k 0) where
    letters : drop k word ≡ letter ∷ drop (k + 1) word
    letters = rw add-one (drop-cons word k 0 within ∙ ap (λ b. b ∷ drop (suc k) word) (sym here))

    module _ (option : Choice) (known : choice_of utility letter ≡ Some option) where
      pub letter-switch : takes_argument option ≡ false → reading roster items (group utility (drop k word)) ≡ reading roster (items ++ (option, []) ∷ []) (group utility (drop (k + 1) word))
      letter-switch e = rw (letters, known, e) (reading-item roster items (option, []) (group utility (drop (k + 1) word)))

      pub letter-switch-wrong : takes_argument option ≡ false → (fault : UsageFault) → settings_in roster (items ++ (option, []) ∷ []) ≡ Err fault → reading roster items (group utility (drop k word)) ≡ Err fault
      letter-switch-wrong e fault wrong = letter-switch e ∙ reading-wrong roster (items ++ (option, []) ∷ []) fault (group utility (drop (k + 1) word)) wrong

      argument : takes_argument option ≡ true → 0 < length (drop (k + 1) word) → reading roster items (group utility (drop k word)) ≡ reading roster (items ++ (option, drop (k + 1) word) ∷ []) (record { items = []; rest = Ok None })
      argument e some =
          let more : nat_lt 0 (length (drop (k + 1) word)) ≡ true = grind (arith, nat_tests) in
          rw (letters, known, e, more) (reading-item roster items (option, drop (k + 1) word) (record { items = []; rest = Ok None }))

      pub letter-argument : (settings : Settings) → takes_argument option ≡ true → 0 < length (drop (k + 1) word) → settings_in roster (items ++ (option, drop (k + 1) word) ∷ []) ≡ Ok settings → reading roster items (group utility (drop k word)) ≡ Ok (settings, None)
      letter-argument settings e some set = argument e some ∙ reading-end roster (items ++ (option, drop (k + 1) word) ∷ []) settings None set

      pub letter-argument-wrong : (fault : UsageFault) → takes_argument option ≡ true → 0 < length (drop (k + 1) word) → settings_in roster (items ++ (option, drop (k + 1) word) ∷ []) ≡ Err fault → reading roster items (group utility (drop k word)) ≡ Err fault
      letter-argument-wrong fault e some wrong = argument e some ∙ reading-wrong roster (items ++ (option, drop (k + 1) word) ∷ []) fault (record { items = []; rest = Ok None }) wrong
