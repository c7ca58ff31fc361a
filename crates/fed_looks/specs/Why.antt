-- Why a job stands where it does, at a site and a moment.
use Rattle.std.specs.Prelude.{◌≡◌, ℕ, Bool, true, false, not, ◌&&◌, List, ◌++◌, codes, nat_le, if◌then◌else◌, unwrap_or, Option, Some, None}
use Rattle.std.specs.List.{list_any}
use Rattle.std.specs.Fmt.{decimal}
use Rattle.fed_lattice.specs.Sets.{Has}
use Rattle.fed_stamp.specs.Roster.{nodes_at}
use Rattle.fed_stamp.specs.Stamp.{StampValue, same_stamp}
use Rattle.fed_model.specs.declared.beginnings.Beginning.{Beginning}
use Rattle.fed_model.specs.declared.beginnings.Ending.{Ending}
use Rattle.fed_model.specs.JobView.{JobView}
use Rattle.fed_model.specs.Letter.{has_site, holder, is_granted, is_granted_to, is_held, is_submitted}
use Rattle.fed_model.specs.View.{View}
use Rattle.fed_easy.specs.Plan.{PlanValue, ids}
use Rattle.fed_easy.specs.Queue.{queue_in}
use Rattle.fed_qstat.specs.Identifier.{text_of_identifier, text_of_site}
use Rattle.fed_qstat.specs.JobText.{field_text, text_of_holder, text_of_holds}
use Rattle.fed_qstat.specs.Outcome.{answer_line}
use Rattle.fed_easy.specs.RosterPlan.{plan_in}

-- where the job began, when, and on how many nodes
abbrev pub text_of_begun : List (List ℕ × ℕ) → StampValue × Beginning → List ℕ
text_of_begun roster begun = codes "begun at " ++ text_of_site roster begun.0.site ++ codes " since " ++ decimal begun.1.moment
    ++ codes " on " ++ decimal begun.1.nodes ++ codes " nodes until " ++ decimal begun.1.end

-- the head itself, or a job behind it
abbrev pub text_of_behind : List (List ℕ × ℕ) → StampValue → StampValue × ℕ → List ℕ
text_of_behind roster job head = if same_stamp job head.0 then codes "head, at " ++ decimal head.1
    else codes "waits behind " ++ text_of_identifier roster head.0 ++ codes ", which starts at " ++ decimal head.1

-- where a job of the queue stands: without a head the whole queue starts
abbrev pub place_beside : List (List ℕ × ℕ) → StampValue → Bool → Option (StampValue × ℕ) → List ℕ
place_beside roster job starts None = codes "starts"
place_beside roster job starts (Some head) = if starts then codes "starts" else text_of_behind roster job head

abbrev pub text_of_place : List (List ℕ × ℕ) → StampValue → Option PlanValue → List ℕ
text_of_place roster job None = codes "no plan"
text_of_place roster job (Some plan) = place_beside roster job (list_any (λ start. same_stamp start job) plan.starts) plan.head

-- the nodes that a job asks for are at most so many
abbrev pub is_narrow : ℕ → Option (StampValue × ℕ) → Bool
is_narrow capacity None = true
is_narrow capacity (Some nodes) = nat_le nodes.1 capacity

-- the first thing that keeps a job that has not begun from the queue of the site, if anything does
abbrev pub obstacle_of : List (List ℕ × ℕ) → ℕ → JobView → Option (List ℕ)
obstacle_of roster here j =
    if is_held j then Some (codes "held " ++ text_of_holds j)
    else if is_granted j && not (is_granted_to j here) then Some (codes "granted to " ++ text_of_holder roster (holder j))
    else if not (has_site j here) then Some (codes "not for " ++ text_of_site roster here)
    else if is_narrow (nodes_at roster here) j.fields.nodes then None
    else Some (codes "needs " ++ field_text decimal j.fields.nodes ++ codes " of " ++ decimal (nodes_at roster here) ++ codes " nodes")

-- how far a job has come; one that has not begun waits
abbrev pub progress_text : List (List ℕ × ℕ) → Option (StampValue × Ending) → Option (StampValue × Beginning) → List ℕ → List ℕ
progress_text roster (Some finished) begun waiting = codes "finished " ++ decimal finished.1.status
progress_text roster None (Some begun) waiting = text_of_begun roster begun
progress_text roster None None waiting = waiting

-- of a job that was deleted: where it runs, as long as it does
abbrev pub text_of_deleted : List (List ℕ × ℕ) → Option (StampValue × Ending) → Option (StampValue × Beginning) → List ℕ
text_of_deleted roster (Some finished) begun = codes "deleted"
text_of_deleted roster None (Some begun) = text_of_begun roster begun ++ codes ", deleted"
text_of_deleted roster None None = codes "deleted"

-- of a job that is known, beside the plan of the site
abbrev pub text_of_job : List (List ℕ × ℕ) → ℕ → StampValue → JobView → Option PlanValue → List ℕ
text_of_job roster here job j plan = if j.stages.deleted then text_of_deleted roster j.stages.finished j.stages.begun
    else progress_text roster j.stages.finished j.stages.begun (unwrap_or (obstacle_of roster here j) (text_of_place roster job plan))

-- what is told of the job is its place in the plan
pub record HasPlace (roster : List (List ℕ × ℕ)) (here : ℕ) (j : JobView) : Type 0 where
  pub not_deleted : j.stages.deleted ≡ false
  pub unfinished : j.stages.finished ≡ None
  pub not_begun : j.stages.begun ≡ None
  pub free : obstacle_of roster here j ≡ None

-- the job is in the queue of a site of so many nodes
abbrev pub IsQueued : ℕ → ℕ → View → StampValue → Type 0
IsQueued site capacity v job = Has (ids (queue_in site capacity v)) job

-- the first that applies
abbrev pub why_text : List (List ℕ × ℕ) → View → ℕ → StampValue → ℕ → List ℕ
why_text roster v here job moment = if is_submitted (v.job job)
    then text_of_job roster here job (v.job job) (plan_in roster v here moment) else codes "unknown"

abbrev pub line_of_why : List (List ℕ × ℕ) → View → ℕ → StampValue → ℕ → List ℕ
line_of_why roster v here job moment = answer_line (why_text roster v here job moment)
