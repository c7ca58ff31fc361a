-- The plan of a site as a JSON object.
use Rattle.std.specs.Prelude.{ℕ, List, [], ◌∷◌, codes, Option, Some, None}
use Rattle.serde_json.specs.Data.{Data, null, string}
use Rattle.fed_stamp.specs.Stamp.{StampValue}
use Rattle.fed_model.specs.View.{View}
use Rattle.fed_easy.specs.Plan.{PlanValue}
use Rattle.fed_easy.specs.RosterPlan.{plan_in_without}
use Rattle.fed_json.specs.Numbers.{natural_value}
use Rattle.fed_json.specs.Objects.{object_value}
use Rattle.fed_json.specs.Values.{list_value}
use Rattle.fed_qstat.specs.Identifier.{text_of_identifier}
use Rattle.fed_looks.specs.JobObject.{objects_of_jobs}
use Rattle.fed_looks.specs.JsonLine.{json_line}

-- the head with its second, or null where there is none
abbrev pub head_data : List (List ℕ × ℕ) → Option (StampValue × ℕ) → Data
head_data roster None = null
head_data roster (Some head) = object_value (
    (codes "job", string (text_of_identifier roster head.0)) ∷
    (codes "second", natural_value head.1) ∷
    [])

-- the head, and the jobs that start, in their order
abbrev pub plan_object : Data → Data → Data
plan_object head starts = object_value ((codes "head", head) ∷ (codes "starts", starts) ∷ [])

-- null where there is no plan
abbrev pub plan_data : List (List ℕ × ℕ) → View → Option PlanValue → Data
plan_data roster v None = null
plan_data roster v (Some p) = plan_object (head_data roster p.head) (list_value (objects_of_jobs roster v p.starts))

-- the plan of a site at a moment where these jobs are left out
abbrev pub json_of_plan : List StampValue → List (List ℕ × ℕ) → View → ℕ → ℕ → List ℕ
json_of_plan jobs roster v site moment = json_line (plan_data roster v (plan_in_without jobs roster v site moment))
