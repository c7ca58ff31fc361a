-- The text of a plan.
use Rattle.std.specs.Prelude.{ℕ, List, [], ◌∷◌, ◌++◌, codes, flat_map, Option, Some, None}
use Rattle.std.specs.Fmt.{decimal}
use Rattle.fed_stamp.specs.Stamp.{StampValue}
use Rattle.fed_model.specs.Plan.{PlanValue}
use Rattle.fed_qstat.specs.Identifier.{text_of_identifier}

-- the line of a job that starts
abbrev pub line_of_start : List (List ℕ × ℕ) → StampValue → List ℕ
line_of_start roster job = codes "start " ++ text_of_identifier roster job ++ 10 ∷ []

-- the line of the head with its second, if there is a head
abbrev pub head_of : List (List ℕ × ℕ) → Option (StampValue × ℕ) → List ℕ
head_of roster None = []
head_of roster (Some head) = codes "head " ++ text_of_identifier roster head.0 ++ 32 ∷ decimal head.1 ++ 10 ∷ []

-- a line for each start, in their order, then that of the head
abbrev pub plan_lines : List (List ℕ × ℕ) → PlanValue → List ℕ
plan_lines roster p = flat_map (line_of_start roster) p.starts ++ head_of roster p.head
