-- The queue at a site. All is computed of what is read of a board.
use Rattle.std.specs.Prelude.{ℕ, ℤ, Bool, not, ◌&&◌, ◌||◌, List, [], ◌∷◌, filter, if◌then◌else◌, nat_le, Option, Some, None, is_none}
use Rattle.std.specs.BTreeSet.{insert_key}
use Rattle.std.specs.List.{filter_map, list_any}
use Rattle.fed_stamp.specs.Stamp.{StampValue, same_stamp}
use Rattle.fed_model.specs.JobView.{JobView}
use Rattle.fed_model.specs.Letter.{has_site, is_gone, is_granted, is_granted_to, is_held, is_submitted}
use Rattle.fed_model.specs.Identifiers.{jobs_in}
use Rattle.fed_model.specs.View.{View}
use Rattle.fed_easy.specs.declared.queues.QueuedJob.{QueuedJob}
use Rattle.fed_easy.specs.QueueOrder.{queue_cmp}

-- submitted and not gone, begun or held, granted to none or to the site, and the site is among its sites
abbrev pub is_waiting : ℕ → JobView → Bool
is_waiting site j = is_submitted j && not (is_gone j) && is_none j.stages.begun && not (is_held j)
    && (not (is_granted j) || is_granted_to j site) && has_site j site

-- the job with what is read of it, if it needs at most the machine's nodes
abbrev pub queued_with : ℕ → StampValue → Bool → Option (StampValue × ℤ) → Option (StampValue × ℕ) →
    Option (StampValue × ℕ) → Option QueuedJob
queued_with capacity id granted (Some priority) (Some nodes) (Some limit) = if nat_le nodes.1 capacity
    then Some (record { is_granted = granted; priority = priority.1; id = id; nodes = nodes.1; limit = limit.1 })
    else None
queued_with capacity id granted _ _ _ = None

-- the job as it stands in the queue, if it does
abbrev pub queued : ℕ → ℕ → StampValue → JobView → Option QueuedJob
queued site capacity id j =
    if is_waiting site j then queued_with capacity id (is_granted_to j site) j.fields.priority j.fields.nodes j.fields.limit else None

-- the jobs that wait at a site of so many nodes
abbrev pub waiting_in : ℕ → ℕ → View → List QueuedJob
waiting_in site capacity v = filter_map (λ job. queued site capacity job (v.job job)) (jobs_in v)

-- the queue with the jobs put in, each at its place in the order
abbrev pub in_order : List QueuedJob → List QueuedJob → List QueuedJob
in_order queue [] = queue
in_order queue (j ∷ js) = in_order (insert_key queue_cmp queue j) js

-- the queue at a site of so many nodes
abbrev pub queue_in : ℕ → ℕ → View → List QueuedJob
queue_in site capacity v = in_order [] (waiting_in site capacity v)

-- the job is one of those of these identifiers
abbrev pub is_among : List StampValue → QueuedJob → Bool
is_among jobs j = list_any (same_stamp j.id) jobs

-- the queue, with these jobs left out
abbrev pub queue_without : List StampValue → ℕ → ℕ → View → List QueuedJob
queue_without jobs site capacity v = filter (λ j. not (is_among jobs j)) (queue_in site capacity v)
