-- Words are read as the grammar says, and all words are of the grammar.
use Rattle.std.proofs.Common.{◌≡◌, ℕ, ◌<◌, Bool, true, false, List, [], ◌∷◌, ◌++◌, length, Option, Some, None, Ok, Err, refl, ap, sym, ◌∙◌, arith, inl, inr, append-nil, append_assoc, codes}
use Rattle.std.specs.Prelude.{◌==◌, nat_lt}
use Rattle.std.specs.List.{All, find, flat_map}
use Rattle.std.specs.Str.{bytes_eq}
use Rattle.std.proofs.lemmas.Bool.{cases_Bool, eqb-true, and_parts}
use Rattle.std.proofs.lemmas.Bool.Decides.{nat_tests}
use Rattle.std.proofs.lemmas.List.Elements.{All-cons, All-from_recursion, All-head, All-nil, All-tail}
use Rattle.std.proofs.lemmas.List.{length-map}
use Rattle.std.proofs.lemmas.Slice.Eq.{bytes_eq-Decides}
use Rattle.fed_words.specs.declared.faults.UsageFault.TheVariants.{MissingArgument, UnknownOption}
use Rattle.fed_words.specs.declared.utilities.Choice.{Choice}
use Rattle.fed_words.specs.declared.utilities.Utility.{Utility}
use Rattle.fed_words.specs.declared.utilities.Utility.TheVariants.{Qsub, Qalter, Qhold, Qrls, Qdel, Qstat}
use Rattle.fed_words.specs.Spelling.{Item, Spelling, before, group, is_options, spelling, with_item}
use Rattle.fed_words.specs.Syntax.{Argued, Ending, HasOption, IsEnding, IsLast, IsLine, IsOptionWord, UtilityLine, OptionWord, attached, bare, delimited, item_of_last, items_of_ending, items_of_flags, items_of_option, letters, missing, rest_of_ending, separate, unknown, words_behind, words_of_ending, words_of_line, words_of_option}
use Rattle.fed_words.specs.Utility.{choice_of, choices, letter_of, takes_argument}
use Rattle.fed_words.proofs.Given.{option_map_some}
use Rattle.fed_words.proofs.Spellings.{Words, with_items, not_dashes}

-- ---- lines are read

no_dash : (option : Choice) → (letter_of option == 45) ≡ false
no_dash Choice.Account = refl
no_dash Choice.Held = refl
no_dash Choice.Kinds = refl
no_dash Choice.Resources = refl
no_dash Choice.Name = refl
no_dash Choice.Priority = refl
no_dash Choice.Full = refl

long : (a b : ℕ) (cs : List ℕ) → nat_lt 1 (length (a ∷ b ∷ cs)) ≡ true
long a b cs = let fact : 1 < length (a ∷ b ∷ cs) = omega arith in grind (arith, nat_tests)

some : (a : ℕ) (cs : List ℕ) → nat_lt 0 (length (a ∷ cs)) ≡ true
some a cs = let fact : 0 < length (a ∷ cs) = omega arith in grind (arith, nat_tests)

flags_read : (utility : Utility) (flags : List Choice) (more : List ℕ) → All (HasOption utility false) flags → group utility (letters flags ++ more) ≡ record { items = items_of_flags flags ++ (group utility more).items; rest = (group utility more).rest }
flags_read utility [] more all = refl
flags_read utility (flag ∷ flags) more all =
    let known = All-head (HasOption utility false) flag flags all in
    rw (known.0, known.1) (ap (with_item (flag, [])) (flags_read utility flags more (All-tail (HasOption utility false) flag flags all)))

-- a word of options is read letter by letter
opened : (utility : Utility) (text : List ℕ) (more : Words) → 0 < length text → bytes_eq (45 ∷ text) (codes "--") ≡ false → spelling utility None ((45 ∷ text) ∷ more) ≡ before (group utility text).items (group utility text).rest (λ wanted. spelling utility wanted more)
opened utility [] more nonempty e = absurd (omega arith)
opened utility (letter ∷ others) more nonempty e = rw (e, long 45 letter others) refl

filled : (flags : List Choice) (letter : ℕ) (others : List ℕ) → 0 < length (letters flags ++ letter ∷ others)
filled [] letter others = omega arith
filled (flag ∷ flags) letter others = omega arith

apart : (flags : List Choice) (option : Choice) (others : List ℕ) → bytes_eq (45 ∷ (letters flags ++ letter_of option ∷ others)) (codes "--") ≡ false
apart [] option others = rw (no_dash option) refl
apart (flag ∷ flags) option others = rw (no_dash flag) refl

goes_on : (utility : Utility) (g : Spelling (Option Choice)) (items : List Item) (next : Option Choice) (more : Words) → g ≡ record { items = items; rest = Ok next } → before g.items g.rest (λ wanted. spelling utility wanted more) ≡ with_items items (spelling utility next more)
goes_on utility g items next more e = rw e refl

regrouped : (items : List Item) (item : Item) (s : Spelling Words) → with_items (items ++ []) (with_item item s) ≡ with_items (items ++ item ∷ []) s
regrouped items item s = ap (λ is. record { items = is; rest = s.rest }) (ap (λ front. front ++ item ∷ s.items) (append-nil items) ∙ sym (append_assoc items (item ∷ []) s.items))

word_read : (utility : Utility) (flags : List Choice) (last : Option Argued) (more : Words) → All (HasOption utility false) flags → IsLast utility flags last → spelling utility None (words_behind (letters flags) last ++ more) ≡ with_items (items_of_flags flags ++ item_of_last last) (spelling utility None more)
word_read utility [] None more all h = absurd (omega (arith, h))
word_read utility (flag ∷ flags) None more all h =
    opened utility (letters (flag ∷ flags)) more (omega arith) (rw (no_dash flag) refl)
    ∙ goes_on utility (group utility (letters (flag ∷ flags))) (items_of_flags (flag ∷ flags) ++ []) None more
    (ap (group utility) (sym (append-nil (letters (flag ∷ flags)))) ∙ flags_read utility (flag ∷ flags) [] all)
word_read utility flags (Some (attached option [])) more all h = absurd (omega (arith, h.1))
word_read utility flags (Some (attached option (a ∷ argument))) more all h =
    opened utility (letters flags ++ letter_of option ∷ a ∷ argument) more (filled flags (letter_of option) (a ∷ argument)) (apart flags option (a ∷ argument))
    ∙ goes_on utility (group utility (letters flags ++ letter_of option ∷ a ∷ argument)) (items_of_flags flags ++ (option, a ∷ argument) ∷ []) None more
    (flags_read utility flags (letter_of option ∷ a ∷ argument) all ∙ rw (h.0.0, h.0.1, some a argument) refl)
word_read utility flags (Some (separate option argument)) more all h =
    opened utility (letters flags ++ letter_of option ∷ []) (argument ∷ more) (filled flags (letter_of option) []) (apart flags option [])
    ∙ goes_on utility (group utility (letters flags ++ letter_of option ∷ [])) (items_of_flags flags ++ []) (Some option) (argument ∷ more)
    (flags_read utility flags (letter_of option ∷ []) all ∙ rw (h.0, h.1) refl)
    ∙ regrouped (items_of_flags flags) (option, argument) (spelling utility None more)

stops : (utility : Utility) (g : Spelling (Option Choice)) (items : List Item) (fault : _) (more : Words) → g ≡ record { items = items ++ []; rest = Err fault } → before g.items g.rest (λ wanted. spelling utility wanted more) ≡ record { items = items; rest = Err fault }
stops utility g items fault more e = rw e (ap (λ is. record { items = is; rest = Err fault }) (append-nil items))

ending_read : (utility : Utility) (ending : Ending) → IsEnding utility ending → spelling utility None (words_of_ending ending) ≡ record { items = items_of_ending ending; rest = rest_of_ending ending }
ending_read utility (delimited operands) h = refl
ending_read utility (bare []) h = refl
ending_read utility (bare (first ∷ others)) h = rw (not_dashes first h, h) refl
ending_read utility (unknown flags letter others words) h =
    opened utility (letters flags ++ letter ∷ others) words (filled flags letter others) h.2
    ∙ stops utility (group utility (letters flags ++ letter ∷ others)) (items_of_flags flags) UnknownOption words
    (flags_read utility flags (letter ∷ others) h.0 ∙ rw h.1 refl)
ending_read utility (missing flags option) h =
    opened utility (letters flags ++ letter_of option ∷ []) [] (filled flags (letter_of option) []) (apart flags option [])
    ∙ goes_on utility (group utility (letters flags ++ letter_of option ∷ [])) (items_of_flags flags ++ []) (Some option) []
    (flags_read utility flags (letter_of option ∷ []) h.0 ∙ rw (h.1.0, h.1.1) refl)
    ∙ ap (λ is. record { items = is; rest = Err MissingArgument }) (append-nil (items_of_flags flags ++ []) ∙ append-nil (items_of_flags flags))

pub line_read : (utility : Utility) (options : List OptionWord) (ending : Ending) → All (IsOptionWord utility) options → IsEnding utility ending → spelling utility None (flat_map words_of_option options ++ words_of_ending ending) ≡ record { items = flat_map items_of_option options ++ items_of_ending ending; rest = rest_of_ending ending }
line_read utility [] ending all h = ending_read utility ending h
line_read utility (word ∷ options) ending all h =
    let here = All-head (IsOptionWord utility) word options all in
    ap (spelling utility None) (append_assoc (words_of_option word) (flat_map words_of_option options) (words_of_ending ending))
    ∙ word_read utility word.flags word.last (flat_map words_of_option options ++ words_of_ending ending) here.flags here.last
    ∙ ap (with_items (items_of_option word)) (line_read utility options ending (All-tail (IsOptionWord utility) word options all) h)
    ∙ ap (λ is. record { items = is; rest = rest_of_ending ending }) (sym (append_assoc (items_of_option word) (flat_map items_of_option options) (items_of_ending ending)))

-- ---- all words are lines

find_passes : {A : Type 0} (P : A → Type 0) (test : A → Bool) (xs : List A) (x : A) → find test xs ≡ Some x → All P xs → (test x ≡ true) × P x
find_passes P test [] x e all = absurd cc
find_passes P test (y ∷ xs) x e all = elim (cases_Bool (test y)) [
  | inl here ↦ let found : Some y ≡ Some x = (rw here at e) in let same : y ≡ x = cc in rw (← same) (here, All-head P y xs all)
  | inr later ↦ find_passes P test xs x (rw later at e) (All-tail P y xs all)
]

lettered : (utility : Utility) → All (λ t. t.0 ≡ letter_of t.1) (choices utility)
lettered Qsub = All-from_recursion (λ t. t.0 ≡ letter_of t.1) (choices Qsub) (refl, (refl, (refl, (refl, (refl, tt)))))
lettered Qalter = All-from_recursion (λ t. t.0 ≡ letter_of t.1) (choices Qalter) (refl, (refl, (refl, (refl, tt))))
lettered Qhold = All-from_recursion (λ t. t.0 ≡ letter_of t.1) (choices Qhold) (refl, tt)
lettered Qrls = All-from_recursion (λ t. t.0 ≡ letter_of t.1) (choices Qrls) (refl, tt)
lettered Qdel = All-from_recursion (λ t. t.0 ≡ letter_of t.1) (choices Qdel) tt
lettered Qstat = All-from_recursion (λ t. t.0 ≡ letter_of t.1) (choices Qstat) (refl, tt)

letter_from : (utility : Utility) (letter : ℕ) (option : Choice) → choice_of utility letter ≡ Some option → letter ≡ letter_of option
letter_from utility letter option e =
    let found = option_map_some (λ c. c.1) (find (λ c. letter == c.0) (choices utility)) option e in
    let at = find_passes (λ t. t.0 ≡ letter_of t.1) (λ c. letter == c.0) (choices utility) found.0 found.1 (lettered utility) in
    eqb-true letter (found.0).0 at.0 ∙ at.1 ∙ ap letter_of found.2

-- the letters behind a `-`
data Cut (utility : Utility) (text : List ℕ) : Type 0 where
  flagged : (flags : List Choice) → All (HasOption utility false) flags → text ≡ letters flags → Cut utility text
  argued : (flags : List Choice) (option : Choice) (argument : List ℕ) → All (HasOption utility false) flags → HasOption utility true option → text ≡ letters flags ++ letter_of option ∷ argument → Cut utility text
  stray : (flags : List Choice) (letter : ℕ) (others : List ℕ) → All (HasOption utility false) flags → choice_of utility letter ≡ None → text ≡ letters flags ++ letter ∷ others → Cut utility text

one_more : (utility : Utility) (letter : ℕ) (text : List ℕ) (flag : Choice) → HasOption utility false flag → letter ≡ letter_of flag → Cut utility text → Cut utility (letter ∷ text)
one_more utility letter text flag h e (flagged flags all same) = flagged (flag ∷ flags) (All-cons (HasOption utility false) flag flags h all) (rw (e, same) refl)
one_more utility letter text flag h e (argued flags option argument all known same) = argued (flag ∷ flags) option argument (All-cons (HasOption utility false) flag flags h all) known (rw (e, same) refl)
one_more utility letter text flag h e (stray flags other others all none same) = stray (flag ∷ flags) other others (All-cons (HasOption utility false) flag flags h all) none (rw (e, same) refl)

cut : (utility : Utility) (text : List ℕ) → Cut utility text
cut utility [] = flagged [] (All-nil (HasOption utility false)) refl
cut utility (letter ∷ text) = at (choice_of utility letter) refl (cut utility text)
  where
    at : (o : Option Choice) → choice_of utility letter ≡ o → Cut utility text → Cut utility (letter ∷ text)
    at None e h = stray [] letter text (All-nil (HasOption utility false)) e refl
    at (Some option) e h =
        let same = letter_from utility letter option e in
        let known : choice_of utility (letter_of option) ≡ Some option = (rw same at e) in
        elim (cases_Bool (takes_argument option)) [
          | inl takes ↦ argued [] option text (All-nil (HasOption utility false)) (known, takes) (rw same refl)
          | inr flag ↦ one_more utility letter text option (known, flag) same h
        ]

record Parsed (utility : Utility) (words : Words) : Type 0 where
  line : UtilityLine
  is : IsLine utility line
  same : words ≡ words_of_line line

-- what stands behind the first of the words is of the grammar too
abbrev ParsedBehind : Utility → Words → Type 0
ParsedBehind utility [] = Unit {0}
ParsedBehind utility (word ∷ words) = Parsed utility words

with_word : (utility : Utility) (word : OptionWord) (words rest : Words) → IsOptionWord utility word → words ≡ words_of_option word ++ rest → Parsed utility rest → Parsed utility words
with_word utility word words rest h e behind = record {
  line = record { options = word ∷ behind.line.options; ending = behind.line.ending };
  is = record { options = All-cons (IsOptionWord utility) word behind.line.options h behind.is.options; ending = behind.is.ending };
  same = e ∙ ap (λ more. words_of_option word ++ more) behind.same ∙ sym (append_assoc (words_of_option word) (flat_map words_of_option behind.line.options) (words_of_ending behind.line.ending));
}

ended : (utility : Utility) (words : Words) (ending : Ending) → IsEnding utility ending → words ≡ words_of_ending ending → Parsed utility words
ended utility words ending h e = record {
  line = record { options = []; ending = ending };
  is = record { options = All-nil (IsOptionWord utility); ending = h };
  same = e;
}

dashed : (word : List ℕ) → is_options word ≡ true → (text : List ℕ) × (0 < length text) × (word ≡ 45 ∷ text)
dashed [] h = absurd cc
dashed (b ∷ []) h = absurd cc
dashed (b ∷ letter ∷ others) h = (letter ∷ others, omega arith, (let same : b ≡ 45 = eqb-true b 45 (and_parts (nat_lt 1 (length (b ∷ letter ∷ others))) (b == 45) h).1 in rw same refl))

options_parsed : (utility : Utility) (word text : List ℕ) (rest : Words) → 0 < length text → word ≡ 45 ∷ text → bytes_eq word (codes "--") ≡ false → Cut utility text → Parsed utility rest → ParsedBehind utility rest → Parsed utility (word ∷ rest)
options_parsed utility word text rest nonempty at goes (flagged flags all same) behind later =
    with_word utility (record { flags = flags; last = None }) (word ∷ rest) rest
    (record { flags = all; last = (let count = ap length same in omega (arith, count, length-map flags letter_of)) })
    (rw (at, same) refl) behind
options_parsed utility word text rest nonempty at goes (argued flags option (a ∷ argument) all known same) behind later =
    with_word utility (record { flags = flags; last = Some (attached option (a ∷ argument)) }) (word ∷ rest) rest
    (record { flags = all; last = (known, omega arith) }) (rw (at, same) refl) behind
options_parsed utility word text [] nonempty at goes (argued flags option [] all known same) behind later =
    ended utility (word ∷ []) (missing flags option) (all, known) (rw (at, same) refl)
options_parsed utility word text (argument ∷ rest) nonempty at goes (argued flags option [] all known same) behind later =
    with_word utility (record { flags = flags; last = Some (separate option argument) }) (word ∷ argument ∷ rest) rest
    (record { flags = all; last = known }) (rw (at, same) refl) later
options_parsed utility word text rest nonempty at goes (stray flags letter others all none same) behind later =
    ended utility (word ∷ rest) (unknown flags letter others rest) (all, none, (rw (at, same) at goes)) (rw (at, same) refl)

step : (utility : Utility) (word : List ℕ) (rest : Words) → Parsed utility rest → ParsedBehind utility rest → Parsed utility (word ∷ rest)
step utility word rest behind later = elim (cases_Bool (bytes_eq word (codes "--"))) [
  | inl delimiter ↦ ended utility (word ∷ rest) (delimited rest) tt (ap (λ w. w ∷ rest) ((bytes_eq-Decides word (codes "--")).0 delimiter))
  | inr goes ↦ elim (cases_Bool (is_options word)) [
    | inl options ↦ let open_ = dashed word options in options_parsed utility word open_.0 rest open_.1 open_.2 goes (cut utility open_.0) behind later
    | inr operand ↦ ended utility (word ∷ rest) (bare (word ∷ rest)) operand refl
  ]
]

parsed : (utility : Utility) (words : Words) → Parsed utility words × ParsedBehind utility words
parsed utility [] = (ended utility [] (bare []) tt refl, tt)
parsed utility (word ∷ rest) = let more = parsed utility rest in (step utility word rest more.0 more.1, more.0)

pub line_of : (utility : Utility) (words : Words) → (line : UtilityLine) × IsLine utility line × (words ≡ words_of_line line)
line_of utility words = let found = (parsed utility words).0 in (found.line, found.is, found.same)
