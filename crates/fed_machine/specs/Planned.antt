-- What is said to a line that asks a site for its plan.
use Rattle.std.specs.Prelude.{ℕ, List, codes, Option, Some, None, option_map}
use Rattle.fed_stamp.specs.Stamp.{StampValue}
use Rattle.fed_model.specs.View.{View}
use Rattle.fed_easy.specs.RosterPlan.{machine_in, plan_in, plan_in_without}
use Rattle.fed_easy.specs.SitePlan.{site_plan}
use Rattle.fed_qstat.specs.PlanText.{plan_lines}
use Rattle.fed_qstat.specs.Outcome.{answer_line}

-- the lines of a plan, where there is one
abbrev pub plan_if_any : List (List ℕ × ℕ) → View → ℕ → ℕ → Option (List ℕ)
plan_if_any roster v site moment = option_map (plan_lines roster) (plan_in roster v site moment)

-- the lines of the plan of a site that has one
abbrev pub planned : List (List ℕ × ℕ) → View → ℕ → ℕ → List ℕ
planned roster v site moment = plan_lines roster (site_plan v site moment (machine_in roster v site))

abbrev pub plan_or_none : Option (List ℕ) → List ℕ
plan_or_none (Some text) = text
plan_or_none None = answer_line (codes "no plan")

-- what is said
abbrev pub text_of_plan : List (List ℕ × ℕ) → View → ℕ → ℕ → List ℕ
text_of_plan roster v site moment = plan_or_none (plan_if_any roster v site moment)

-- and where these jobs are left out
abbrev pub text_of_plan_without : List StampValue → List (List ℕ × ℕ) → View → ℕ → ℕ → List ℕ
text_of_plan_without jobs roster v site moment =
    plan_or_none (option_map (plan_lines roster) (plan_in_without jobs roster v site moment))
