-- What a user can ask, and words that ask it.
use Rattle.std.specs.Prelude.{◌≡◌, ℕ, ◌<◌, ℤ, Bool, true, ◌||◌, List, [], ◌∷◌, ◌++◌, length, map, codes, Some, None, if◌then◌else◌}
use Rattle.std.specs.Fmt.{decimal, signed_decimal}
use Rattle.std.specs.List.{All, join_with_byte}
use Rattle.std.specs.Str.{byte}
use Rattle.fed_stamp.specs.declared.rosters.TheConstants.{MAX_NODES}
use Rattle.fed_stamp.specs.declared.stamps.TheConstants.{MAX_COUNTER}
use Rattle.fed_stamp.specs.Roster.{name_at}
use Rattle.fed_stamp.specs.SiteSet.{set_of}
use Rattle.fed_stamp.specs.Stamp.{StampValue}
use Rattle.fed_stamp.specs.Word.{is_name}
use Rattle.fed_model.specs.declared.limits.TheConstants.{MAX_LIMIT}
use Rattle.fed_model.specs.Hold.{sum_of_bits}
use Rattle.fed_words.specs.declared.resources.Resource.{Resource}
use Rattle.fed_words.specs.declared.settings.Setting.{Setting}
use Rattle.fed_words.specs.declared.utilities.Choice.{Choice}
use Rattle.fed_words.specs.declared.utilities.Utility.{Utility}
use Rattle.fed_words.specs.declared.utilities.Utility.TheVariants.{Qsub, Qalter, Qhold, Qrls, Qdel, Qstat}
use Rattle.fed_words.specs.Number.{is_within}
use Rattle.fed_words.specs.Priority.{is_priority}
use Rattle.fed_words.specs.Request.{Asked, once, request_of}
use Rattle.fed_words.specs.Resource.{last_resources}
use Rattle.fed_words.specs.Setting.{last_settings}
use Rattle.fed_words.specs.Spelling.{Item}
use Rattle.fed_words.specs.Syntax.{UtilityLine, OptionWord, delimited, separate, words_of_line}
use Rattle.fed_words.specs.Utility.{choice_of, letter_of, takes_argument}

-- ---- items

-- a word for the option, and a word for its argument where it takes one
abbrev pub option_word_of : Item → OptionWord
option_word_of item = if takes_argument item.0 then record { flags = []; last = Some (separate item.0 item.1) }
    else record { flags = item.0 ∷ []; last = None }

-- options, `--` and operands
abbrev pub line_of : List Item → List (List ℕ) → UtilityLine
line_of items operands = record { options = map option_word_of items; ending = delimited operands }

-- ---- identifiers

abbrev pub identifier_text : List (List ℕ × ℕ) → StampValue → List ℕ
identifier_text roster job = decimal job.counter ++ (byte "." ∷ name_at roster job.site)

-- a job of a site of the roster
abbrev pub IsJob : List (List ℕ × ℕ) → StampValue → Type 0
IsJob roster job = (is_within 1 MAX_COUNTER job.counter ≡ true) × (job.site < length roster)

-- ---- settings

-- one resource of a list of them, with its value
pub data ResourceArgument : Type 0 where
  nodes : ℕ → ResourceArgument
  walltime : ℕ → ResourceArgument
  sites : List ℕ → ResourceArgument

abbrev pub resource_of : ResourceArgument → Resource
resource_of (nodes n) = Resource.Nodes n
resource_of (walltime n) = Resource.Limit n
resource_of (sites ids) = Resource.Sites (set_of ids)

abbrev pub resource_text : List (List ℕ × ℕ) → ResourceArgument → List ℕ
resource_text roster (nodes n) = codes "nodes=" ++ decimal n
resource_text roster (walltime n) = codes "walltime=" ++ decimal n
resource_text roster (sites ids) = codes "sites=" ++ join_with_byte (byte "+") (map (name_at roster) ids)

abbrev pub IsResourceInRange : List (List ℕ × ℕ) → ResourceArgument → Type 0
IsResourceInRange roster (nodes n) = is_within 1 MAX_NODES n ≡ true
IsResourceInRange roster (walltime n) = is_within 1 MAX_LIMIT n ≡ true
IsResourceInRange roster (sites ids) = (0 < length ids) × All (λ site. site < length roster) ids

-- an option, with the value of its option-argument where it takes one
pub data OptionArgument : Type 0 where
  account : List ℕ → OptionArgument
  held : OptionArgument
  kinds : Bool → Bool → Bool → OptionArgument
  resources : List ResourceArgument → OptionArgument
  name : List ℕ → OptionArgument
  priority : ℤ → OptionArgument
  full : OptionArgument

abbrev pub setting_of : OptionArgument → Setting
setting_of (account text) = Setting.Account (Some text)
setting_of held = Setting.Held
setting_of (kinds user operator system) = Setting.Kinds (record { 0 = sum_of_bits user operator system })
setting_of (resources arguments) = Setting.Resources (last_resources (map resource_of arguments))
setting_of (name text) = Setting.Name text
setting_of (priority number) = Setting.Priority number
setting_of full = Setting.Full

-- a letter where its kind is asked for
abbrev pub letter_where : Bool → ℕ → List ℕ
letter_where is_asked letter = if is_asked then letter ∷ [] else []

-- the option and the argument that say it
abbrev pub item_of : List (List ℕ × ℕ) → OptionArgument → Item
item_of roster (account text) = (Choice.Account, text)
item_of roster held = (Choice.Held, [])
item_of roster (kinds user operator system) = (
  Choice.Kinds,
  letter_where user (byte "u") ++ letter_where operator (byte "o") ++ letter_where system (byte "s"),
)
item_of roster (resources arguments) = (Choice.Resources, join_with_byte (byte ",") (map (resource_text roster) arguments))
item_of roster (name text) = (Choice.Name, text)
item_of roster (priority number) = (Choice.Priority, signed_decimal number)
item_of roster full = (Choice.Full, [])

-- a value in its range or form; a list has an element
abbrev pub IsInRange : List (List ℕ × ℕ) → OptionArgument → Type 0
IsInRange roster (account text) = is_name text ≡ true
IsInRange roster held = Unit {0}
IsInRange roster (kinds user operator system) = (user || operator || system) ≡ true
IsInRange roster (resources arguments) = (0 < length arguments) × All (IsResourceInRange roster) arguments
IsInRange roster (name text) = is_name text ≡ true
IsInRange roster (priority number) = is_priority number ≡ true
IsInRange roster full = Unit {0}

-- ---- requests

-- the utility has the option that says it
abbrev pub IsOption : List (List ℕ × ℕ) → Utility → OptionArgument → Type 0
IsOption roster utility argument =
    choice_of utility (letter_of (item_of roster argument).0) ≡ Some (item_of roster argument).0

-- one job at least, where the utility takes one or more
abbrev pub HasJobs : Utility → List StampValue → Type 0
HasJobs Qsub jobs = Unit {0}
HasJobs Qstat jobs = Unit {0}
HasJobs _ jobs = 0 < length jobs

-- what a user can ask of a utility
pub record IsAsked (roster : List (List ℕ × ℕ)) (utility : Utility) (arguments : List OptionArgument) (jobs : List StampValue)
    : Type 0 where
  pub options : All (IsOption roster utility) arguments
  pub in_range : All (IsInRange roster) arguments
  pub known : All (IsJob roster) jobs
  pub some : HasJobs utility jobs

abbrev pub name_of : Utility → List ℕ
name_of Qsub = codes "qsub"
name_of Qalter = codes "qalter"
name_of Qhold = codes "qhold"
name_of Qrls = codes "qrls"
name_of Qdel = codes "qdel"
name_of Qstat = codes "qstat"

-- words that ask this of a utility
abbrev pub asking : List (List ℕ × ℕ) → Utility → List OptionArgument → List StampValue → List (List ℕ)
asking roster utility arguments jobs =
    name_of utility ∷ words_of_line (line_of (map (item_of roster) arguments) (map (identifier_text roster) jobs))

-- a request that a user can ask for, of a utility, by these options and for these jobs
pub record CanBeAsked (roster : List (List ℕ × ℕ)) (request : Asked) : Type 0 where
  pub utility : Utility
  pub arguments : List OptionArgument
  pub jobs : List StampValue
  pub asked : IsAsked roster utility arguments jobs
  pub same : request ≡ request_of roster utility (last_settings (map setting_of arguments)) (once jobs)

-- words that ask for the request
abbrev pub words_for : (roster : List (List ℕ × ℕ)) (request : Asked) → CanBeAsked roster request → List (List ℕ)
words_for roster request asked = asking roster asked.utility asked.arguments asked.jobs
