-- What a line of a script does, and the text that answers it.
use Rattle.std.specs.Prelude.{◌≡◌, ℕ, Bool, ◌&&◌, List, [], ◌∷◌, ◌++◌, codes, length, Option, Some, None, option_map, if◌then◌else◌}
use Rattle.fed_stamp.specs.Roster.{IsRoster}
use Rattle.fed_stamp.specs.Version.{is_below}
use Rattle.fed_model.specs.declared.askers.Who.{Who}
use Rattle.fed_model.specs.declared.commands.Command.{Command}
use Rattle.fed_model.specs.View.{View, view}
use Rattle.fed_model.specs.declared.events.Event.{Event}
use Rattle.fed_model.specs.declared.events.Event.TheVariants.{Do, Ship, Take}
use Rattle.fed_model.specs.Run.{World, run, start, step}
use Rattle.fed_script.specs.Line.{Line, skips, begins, acts, lists, misuses, ships, takes, plans, compares, first_line_in, later_line_in}
use Rattle.fed_qstat.specs.Outcome.{answer_line, line_of_usage, text_of_outcome}
use Rattle.fed_qstat.specs.Listed.{listed}
use Rattle.fed_machine.specs.Planned.{planned}

-- the sites, and the world of the run so far
pub record Script : Type 0 where
  pub roster : List (List ℕ × ℕ)
  pub world : World

-- nothing before the line that names the sites
abbrev pub State : Type 0
State = Option Script

-- what follows, and the text that answers
pub record Answered (S : Type 0) : Type 0 where
  pub after : S
  pub text : List ℕ

abbrev pub says : {S : Type 0} → S → List ℕ → Answered S
says s text = record { after = s; text = text }

-- what is answered next stands behind what was answered first
abbrev pub followed : {S : Type 0} → (S → Answered S) → Answered S → Answered S
followed next first = says (next first.after).after (first.text ++ (next first.after).text)

-- the script, where the world has become another
abbrev pub with_world : Script → World → Script
with_world s world = record { roster = s.roster; world = world }

-- what is read of the set of a site
abbrev pub view_at : Script → ℕ → View
view_at s site = view (s.world.site site).set

-- one event of the run
abbrev pub after_event : Script → Event → Answered Script
after_event s event = says
    (with_world s (step (length s.roster) s.world event).after)
    (answer_line (text_of_outcome s.roster (step (length s.roster) s.world event).outcome))

-- commands, one after another
abbrev pub after_commands : Script → ℕ → Who → List Command → Answered Script
after_commands s site who [] = says s []
after_commands s site who (command ∷ commands) =
    followed (λ next. after_commands next site who commands) (after_event s (Do site who command))

-- the versions have the same counters
abbrev pub same_version : List ℕ → List ℕ → Bool
same_version v w = is_below v w && is_below w v

-- in a run the boards of two sites read the same exactly where their versions are the same
abbrev pub compared : Script → ℕ → ℕ → List ℕ
compared s site other =
    if same_version (view_at s site).version (view_at s other).version then codes "equal" else codes "different"

-- what a line behind the line of the roster does
abbrev pub later : Script → Line → Answered Script
later s skips = says s []
later s (begins roster) = says s []
later s (acts site who commands) = after_commands s site who commands
later s (lists site full jobs) = says s (listed full s.roster (view_at s site) jobs)
later s (misuses site fault) = says s (line_of_usage fault)
later s (ships site to) = after_event s (Ship site to)
later s (takes site packet) = after_event s (Take site packet)
later s (plans site moment) = says s (planned s.roster (view_at s site) site moment)
later s (compares site other) = says s (answer_line (compared s site other))

-- no site holds an operation yet
abbrev pub begun : List (List ℕ × ℕ) → Script
begun roster = record { roster = roster; world = start }

abbrev pub begun_by : Line → State
begun_by (begins roster) = Some (begun roster)
begun_by line = None

abbrev pub does : State → Line → Answered State
does None line = says (begun_by line) []
does (Some s) line = says (Some (later s line).after) (later s line).text

-- what a line says in a state
abbrev pub line_in : State → List ℕ → Option Line
line_in None bytes = first_line_in bytes
line_in (Some s) bytes = later_line_in s.roster (length s.world.packets) bytes

-- what the bytes of a line do, where they can be read
abbrev pub answered : State → List ℕ → Option (Answered State)
answered state bytes = option_map (does state) (line_in state bytes)

-- the world is that of a run in a federation of these sites
abbrev pub IsRun : State → Type 0
IsRun None = Unit {0}
IsRun (Some s) = IsRoster s.roster × ((events : List Event) × (s.world ≡ run (length s.roster) events))
