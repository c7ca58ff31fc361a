-- Options and operands are read back from the words that say them.
use Rattle.std.proofs.Common.{◌≡◌, ℕ, inl, inr, false, List, [], ◌∷◌, ◌++◌, map, None, Some, Ok, refl, ap, sym, ◌∙◌, arith, append_assoc}
use Rattle.std.specs.List.{All, flat_map}
use Rattle.std.proofs.lemmas.Bool.{cases_Bool}
use Rattle.std.proofs.lemmas.List.Elements.{All-cons, All-head, All-nil, All-tail}
use Rattle.fed_words.specs.declared.utilities.Utility.{Utility}
use Rattle.fed_words.specs.Spelling.{Item, spelling}
use Rattle.fed_words.specs.Syntax.{HasOption, IsOptionWord, delimited, items_of_option, words_of_line}
use Rattle.fed_words.specs.Utility.{choice_of, letter_of, takes_argument}
use Rattle.fed_words.specs.Askable.{line_of, option_word_of}
use Rattle.fed_words.proofs.Cuts.{all-map}
use Rattle.fed_words.proofs.Grammar.{line_read}

-- an option of the utility, whose argument is empty where it takes none
pub record IsItem (utility : Utility) (item : Item) : Type 0 where
  pub choice : choice_of utility (letter_of item.0) ≡ Some item.0
  pub none : takes_argument item.0 ≡ false → item.1 ≡ []

is_option_word : (utility : Utility) (item : Item) → IsItem utility item → IsOptionWord utility (option_word_of item)
is_option_word utility item h = elim (cases_Bool (takes_argument item.0)) [
  | inl takes ↦ rw takes (record { flags = All-nil (HasOption utility false); last = (h.choice, takes) })
  | inr flag ↦ rw flag (record { flags = All-cons (HasOption utility false) item.0 [] (h.choice, flag) (All-nil (HasOption utility false)); last = omega arith })
]

item_again : (utility : Utility) (item : Item) → IsItem utility item → items_of_option (option_word_of item) ≡ item ∷ []
item_again utility item h = elim (cases_Bool (takes_argument item.0)) [
  | inl takes ↦ rw takes refl
  | inr flag ↦ rw flag (ap (λ argument. (item.0, argument) ∷ []) (sym (h.none flag)))
]

items_again : (utility : Utility) (items : List Item) → All (IsItem utility) items → flat_map items_of_option (map option_word_of items) ++ [] ≡ items
items_again utility [] all = refl
items_again utility (item ∷ items) all =
    append_assoc (items_of_option (option_word_of item)) (flat_map items_of_option (map option_word_of items)) []
    ∙ ap (λ more. items_of_option (option_word_of item) ++ more) (items_again utility items (All-tail (IsItem utility) item items all))
    ∙ ap (λ front. front ++ items) (item_again utility item (All-head (IsItem utility) item items all))

pub line_is_read : (utility : Utility) (items : List Item) (operands : List (List ℕ)) → All (IsItem utility) items → spelling utility None (words_of_line (line_of items operands)) ≡ record { items = items; rest = Ok operands }
line_is_read utility items operands all =
    line_read utility (map option_word_of items) (delimited operands) (all-map (IsOptionWord utility) option_word_of (IsItem utility) (is_option_word utility) items all) tt
    ∙ ap (λ is. record { items = is; rest = Ok operands }) (items_again utility items all)
