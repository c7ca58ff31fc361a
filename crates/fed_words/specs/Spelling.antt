-- What words spell: options, each with its argument or none, and then operands (POSIX.1-2017, XBD 12.2).
use Rattle.std.specs.Prelude.{ℕ, Bool, ◌&&◌, ◌==◌, nat_lt, List, [], ◌∷◌, ◌++◌, length, drop, codes, slice_index, Option, Some, None, Ok, Err, if◌then◌else◌}
use Rattle.std.specs.Option.{option_map_or}
use Rattle.std.specs.Str.{byte, bytes_eq}
use Rattle.fed_words.specs.declared.faults.UsageFault.TheVariants.{MissingArgument, UnknownOption}
use Rattle.fed_words.specs.declared.utilities.Choice.{Choice}
use Rattle.fed_words.specs.declared.utilities.Utility.{Utility}
use Rattle.fed_words.specs.Fault.{OrFault}
use Rattle.fed_words.specs.Utility.{choice_of, takes_argument}

-- an option and its argument, empty where it takes none
abbrev pub Item : Type 0
Item = Choice × List ℕ

-- items, and what stands behind them, unless they end at a fault
pub record Spelling (Rest : Type 0) : Type 0 where
  pub items : List Item
  pub rest : OrFault Rest

abbrev pub with_item : {Rest : Type 0} → Item → Spelling Rest → Spelling Rest
with_item item spelling = record { items = item ∷ spelling.items; rest = spelling.rest }

-- the options of one word: letters without arguments, and at most one with an argument, which is the rest of the word,
-- or, where that is empty, still wanted
abbrev pub group : Utility → List ℕ → Spelling (Option Choice)
group utility [] = record { items = []; rest = Ok None }
group utility (letter ∷ letters) = option_map_or
    (λ option. if takes_argument option
    then (if nat_lt 0 (length letters) then record { items = (option, letters) ∷ []; rest = Ok None }
    else record { items = []; rest = Ok (Some option) })
    else with_item (option, []) (group utility letters))
    (choice_of utility letter) (record { items = []; rest = Err UnknownOption })

-- a word of options: a `-`, but not alone
abbrev pub is_options : List ℕ → Bool
is_options word = nat_lt 1 (length word) && (slice_index word 0 == byte "-")

-- these items, and then what follows of what stands behind them; a fault stays
abbrev pub before : {R Rest : Type 0} → List Item → OrFault R → (R → Spelling Rest) → Spelling Rest
before items (Ok x) next = record { items = items ++ (next x).items; rest = (next x).rest }
before items (Err fault) next = record { items = items; rest = Err fault }

-- the options and operands of words, where this option still wants its argument
abbrev pub spelling : Utility → Option Choice → List (List ℕ) → Spelling (List (List ℕ))
spelling utility None [] = record { items = []; rest = Ok [] }
spelling utility None (word ∷ words) = if bytes_eq word (codes "--") then record { items = []; rest = Ok words }
    else (if is_options word
    then (let letters = group utility (drop 1 word) in
    before letters.items letters.rest (λ wanted. spelling utility wanted words))
    else record { items = []; rest = Ok (word ∷ words) })
spelling utility (Some option) [] = record { items = []; rest = Err MissingArgument }
spelling utility (Some option) (word ∷ words) = with_item (option, word) (spelling utility None words)
