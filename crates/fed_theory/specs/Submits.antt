-- How often a site is asked for a new job.
use Rattle.std.specs.Prelude.{ℕ, Bool, false, ◌==◌, List, count_by}
use Rattle.fed_model.specs.declared.commands.Command.{Command}
use Rattle.fed_model.specs.declared.events.Event.{Event}
use Rattle.fed_model.specs.declared.events.Event.TheVariants.{Do}

-- the event asks the site for a new job
abbrev pub is_submit_at : ℕ → Event → Bool
is_submit_at site (Do at who (Command.Submit values held)) = at == site
is_submit_at site _ = false

-- how many of the events do, whatever is answered
abbrev pub submits_at : ℕ → List Event → ℕ
submits_at site events = count_by (is_submit_at site) events
