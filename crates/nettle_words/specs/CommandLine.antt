-- The program's command line, in the words of the parser.
use Rattle.std.specs.Prelude.{◌≡◌, ◌∷◌, Bool, true, List, [], Option, Some, None, codes, if◌then◌else◌, unwrap_or}
use Rattle.std.specs.Option.{option_map}
use Rattle.std.specs.Str.{bytes_eq}
use Rattle.clap.specs.Lexer.{usize_max}
use Rattle.clap.specs.Words.{App, Row, Rule, Text, all_of, first_of, new_app, new_rule, subcommand_of, takes, with_rule, with_subcommand}
use Rattle.clap.specs.declared.builder.action.ArgAction.TheVariants.{Append, SetTrue}

-- an argument that is required
abbrev pub required : Text → Rule
required id = record (new_rule id) { required = true }

-- one that takes all words that are left, of which there is one at least
abbrev pub rest : Text → Rule
rest id = record (required id) {
  action = Some Append;
  range = Some (record { start_inclusive = 1; end_inclusive = usize_max });
}

-- the words of a line are taken as they stand, also those that begin with a hyphen
abbrev pub line : Rule
line = record (rest (codes "WORD")) { trailing_var_arg = true }

-- a command whose first argument is the site's directory
abbrev pub with_directory : Text → App
with_directory name = with_rule (new_app name) (required (codes "DIR"))

abbrev pub init : App
init = with_rule (with_rule (with_directory (codes "init")) (required (codes "SITE"))) (rest (codes "NAME:NODES"))

abbrev pub at : App
at = with_rule (with_directory (codes "at")) line

-- an option without a value
abbrev pub flag : Text → Rule
flag name = record (new_rule name) { long = Some name; action = Some SetTrue }

abbrev pub serve : App
serve = with_rule (with_rule (with_directory (codes "serve")) (flag (codes "frames"))) (flag (codes "keep-history"))

-- the option that names a file
abbrev pub keep : Rule
keep = record (new_rule (codes "FILE")) { long = Some (codes "keep") }

abbrev pub compact : App
compact = with_rule (with_directory (codes "compact")) keep

abbrev pub words : App
words = new_app (codes "words")

abbrev pub bare : App
bare = record (new_app (codes "nettlebeam")) {
  top = record (new_app (codes "nettlebeam")).top { has_version = true; subcommand_required = true };
}

-- the program with its first two commands
abbrev pub first : App
first = with_subcommand (with_subcommand bare init.top) at.top

-- with those that do something with a directory
abbrev pub with_directories : App
with_directories = with_subcommand (with_subcommand (with_subcommand first serve.top) compact.top) (with_directory (codes "check")).top

-- and with all of them
abbrev pub program : App
program = with_subcommand with_directories words.top

-- what the program is asked to do, with a directory but where it tells words
pub data TaskValue : Type 0 where
  Makes : (site : Text) → (sites : List Text) → TaskValue
  Answers : (words : List Text) → TaskValue
  Serves : (frames keeps_history : Bool) → TaskValue
  Compacts : (kept : Option Text) → TaskValue
  Checks : TaskValue
  TellsWords : TaskValue

pub record AskedValue : Type 0 where
  pub directory : Text
  pub task : TaskValue

-- all values of an argument
abbrev pub values_in : Text → List Row → List Text
values_in id rows = unwrap_or (all_of id rows) []

-- the value of an argument
abbrev pub value_in : Text → List Row → Text
value_in id rows = unwrap_or (first_of id rows) []

-- whether an option without a value stands there
abbrev pub is_set : Text → List Row → Bool
is_set id rows = bytes_eq (value_in id rows) (codes "true")

abbrev pub task_in : Text → List Row → TaskValue
task_in name rows = if bytes_eq name (codes "init") then Makes (value_in (codes "SITE") rows) (values_in (codes "NAME:NODES") rows)
    else (if bytes_eq name (codes "at") then Answers (values_in (codes "WORD") rows)
    else (if bytes_eq name (codes "serve") then Serves (is_set (codes "frames") rows) (is_set (codes "keep-history") rows)
    else (if bytes_eq name (codes "compact") then Compacts (first_of (codes "FILE") rows)
    else (if bytes_eq name (codes "check") then Checks else TellsWords))))

-- what the command of this name is asked by its arguments
abbrev pub asked_in : Text × List Row → AskedValue
asked_in p = record { directory = value_in (codes "DIR") p.1; task = task_in p.0 p.1 }

-- what the program is asked by its words
abbrev pub asked_by : List Text → Option AskedValue
asked_by words = option_map asked_in (subcommand_of program words)

-- these words behind the program's name are taken, and ask this
abbrev pub Asks : Text → List Text → AskedValue → Type 0
Asks name words asked = (takes program (name ∷ words) ≡ true) × (asked_by (name ∷ words) ≡ Some asked)
