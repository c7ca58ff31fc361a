-- The utility syntax of POSIX.1-2017, XBD 12.2, as a grammar:
--
--     words       = option-word* ending
--     option-word = `-` flag flag*
--                 | `-` flag* option argument         the argument is the rest of the word
--                 | `-` flag* option, argument        the argument is a word of its own, whatever it begins with
--     ending      = `--`, operand*
--                 | operand*                          of which the first is no option-word and not `--`
--
-- A flag is the letter of an option that takes no argument, an option here the letter of one that takes one. Words that
-- are not of this form have one of two further endings: a word with a letter that the utility does not have, or an
-- option at the end of the words whose argument is missing.
use Rattle.std.specs.Prelude.{◌≡◌, ℕ, ◌<◌, Bool, true, false, List, [], ◌∷◌, ◌++◌, length, map, codes, Option, Some, None, Ok, Err}
use Rattle.std.specs.List.{All, flat_map}
use Rattle.std.specs.Str.{byte, bytes_eq}
use Rattle.fed_words.specs.declared.faults.UsageFault.TheVariants.{MissingArgument, UnknownOption}
use Rattle.fed_words.specs.declared.utilities.Choice.{Choice}
use Rattle.fed_words.specs.declared.utilities.Utility.{Utility}
use Rattle.fed_words.specs.Fault.{OrFault}
use Rattle.fed_words.specs.Spelling.{Item, is_options}
use Rattle.fed_words.specs.Utility.{choice_of, letter_of, takes_argument}

-- the utility has the option, which takes an argument or not
abbrev pub HasOption : Utility → Bool → Choice → Type 0
HasOption utility takes option = (choice_of utility (letter_of option) ≡ Some option) × (takes_argument option ≡ takes)

-- ---- option-words

-- an option with its argument, which is the rest of the word or the next word
pub data Argued : Type 0 where
  attached : Choice → List ℕ → Argued
  separate : Choice → List ℕ → Argued

pub record OptionWord : Type 0 where
  pub flags : List Choice
  pub last : Option Argued

abbrev pub letters : List Choice → List ℕ
letters flags = map letter_of flags

-- the word, or two words, of flags with these letters and of the option behind them
abbrev pub words_behind : List ℕ → Option Argued → List (List ℕ)
words_behind front None = (byte "-" ∷ front) ∷ []
words_behind front (Some (attached option argument)) = (byte "-" ∷ front ++ letter_of option ∷ argument) ∷ []
words_behind front (Some (separate option argument)) = (byte "-" ∷ front ++ letter_of option ∷ []) ∷ argument ∷ []

abbrev pub words_of_option : OptionWord → List (List ℕ)
words_of_option word = words_behind (letters word.flags) word.last

abbrev pub items_of_flags : List Choice → List Item
items_of_flags flags = map (λ flag. (flag, [])) flags

abbrev pub item_of_last : Option Argued → List Item
item_of_last None = []
item_of_last (Some (attached option argument)) = (option, argument) ∷ []
item_of_last (Some (separate option argument)) = (option, argument) ∷ []

abbrev pub items_of_option : OptionWord → List Item
items_of_option word = items_of_flags word.flags ++ item_of_last word.last

-- an argument that is the rest of a word is not empty; a word of no such option has a flag
abbrev pub IsLast : Utility → List Choice → Option Argued → Type 0
IsLast utility flags None = 0 < length flags
IsLast utility flags (Some (attached option argument)) = HasOption utility true option × (0 < length argument)
IsLast utility flags (Some (separate option argument)) = HasOption utility true option

pub record IsOptionWord (utility : Utility) (word : OptionWord) : Type 0 where
  pub flags : All (HasOption utility false) word.flags
  pub last : IsLast utility word.flags word.last

-- ---- endings

pub data Ending : Type 0 where
  -- `--` and operands
  delimited : List (List ℕ) → Ending
  -- operands
  bare : List (List ℕ) → Ending
  -- a word with flags, and behind them a letter of no option and other letters; and the words behind it
  unknown : List Choice → ℕ → List ℕ → List (List ℕ) → Ending
  -- a word with flags and an option, behind which no word stands
  missing : List Choice → Choice → Ending

abbrev pub words_of_ending : Ending → List (List ℕ)
words_of_ending (delimited operands) = codes "--" ∷ operands
words_of_ending (bare operands) = operands
words_of_ending (unknown flags letter others words) = (byte "-" ∷ letters flags ++ letter ∷ others) ∷ words
words_of_ending (missing flags option) = (byte "-" ∷ letters flags ++ letter_of option ∷ []) ∷ []

abbrev pub items_of_ending : Ending → List Item
items_of_ending (delimited operands) = []
items_of_ending (bare operands) = []
items_of_ending (unknown flags letter others words) = items_of_flags flags
items_of_ending (missing flags option) = items_of_flags flags

-- the operands, or the fault
abbrev pub rest_of_ending : Ending → OrFault (List (List ℕ))
rest_of_ending (delimited operands) = Ok operands
rest_of_ending (bare operands) = Ok operands
rest_of_ending (unknown flags letter others words) = Err UnknownOption
rest_of_ending (missing flags option) = Err MissingArgument

abbrev pub IsEnding : Utility → Ending → Type 0
IsEnding utility (delimited operands) = Unit {0}
IsEnding utility (bare []) = Unit {0}
IsEnding utility (bare (first ∷ others)) = is_options first ≡ false
IsEnding utility (unknown flags letter others words) = All (HasOption utility false) flags ×
    (choice_of utility letter ≡ None) × (bytes_eq (byte "-" ∷ letters flags ++ letter ∷ others) (codes "--") ≡ false)
IsEnding utility (missing flags option) = All (HasOption utility false) flags × HasOption utility true option

-- ---- words

pub record UtilityLine : Type 0 where
  pub options : List OptionWord
  pub ending : Ending

pub record IsLine (utility : Utility) (line : UtilityLine) : Type 0 where
  pub options : All (IsOptionWord utility) line.options
  pub ending : IsEnding utility line.ending

abbrev pub words_of_line : UtilityLine → List (List ℕ)
words_of_line line = flat_map words_of_option line.options ++ words_of_ending line.ending

abbrev pub items_of_line : UtilityLine → List Item
items_of_line line = flat_map items_of_option line.options ++ items_of_ending line.ending
