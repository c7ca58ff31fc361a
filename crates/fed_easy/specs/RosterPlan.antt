-- The plan of a site of a roster.
use Rattle.std.specs.Prelude.{ℕ, List, Option, Some, None, is_none, if◌then◌else◌}
use Rattle.fed_stamp.specs.Roster.{nodes_at}
use Rattle.fed_stamp.specs.Stamp.{StampValue}
use Rattle.fed_model.specs.View.{View}
use Rattle.fed_easy.specs.Machine.{MachineValue, first_fault, running_in}
use Rattle.fed_easy.specs.Plan.{PlanValue}
use Rattle.fed_easy.specs.SitePlan.{plan_without, site_plan}

-- the machine of a site: the roster's nodes, and what is read to run there
abbrev pub machine_in : List (List ℕ × ℕ) → View → ℕ → MachineValue
machine_in roster v site = record { nodes = nodes_at roster site; running = running_in site v }

-- the plan of a site at a moment; there is none where no machine may be as the view has it, which no view of a run does
abbrev pub plan_in : List (List ℕ × ℕ) → View → ℕ → ℕ → Option PlanValue
plan_in roster v site moment = if is_none (first_fault (nodes_at roster site) (running_in site v))
    then Some (site_plan v site moment (machine_in roster v site)) else None

-- and that where these jobs are left out
abbrev pub plan_in_without : List StampValue → List (List ℕ × ℕ) → View → ℕ → ℕ → Option PlanValue
plan_in_without jobs roster v site moment = if is_none (first_fault (nodes_at roster site) (running_in site v))
    then Some (plan_without jobs v site moment (machine_in roster v site)) else None
