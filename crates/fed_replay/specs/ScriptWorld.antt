-- How the code keeps what a script does.
use Rattle.std.specs.Prelude.{ℕ, List, length, Option, Some, None}
use Rattle.fed_model.specs.declared.events.Event.{Event}
use Rattle.fed_model.specs.Run.{run}
use Rattle.fed_replay.specs.Script.{Script, State}

-- the sites, and the events of the run so far
pub record ScriptWorldValue : Type 0 where
  pub roster : List (List ℕ × ℕ)
  pub events : List Event

abbrev pub reads : ScriptWorldValue → Script
reads f = record { roster = f.roster; world = run (length f.roster) f.events }

abbrev pub state_of : Option ScriptWorldValue → State
state_of None = None
state_of (Some f) = Some (reads f)
