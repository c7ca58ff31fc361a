-- Which jobs start now: the front of the queue, and behind the head those that fit beside its time.
use Rattle.std.specs.Prelude.{ℕ, List, [], ◌∷◌, ◌++◌, drop, length, map, if◌then◌else◌, Option, Some, None}
use Rattle.fed_stamp.specs.Stamp.{StampValue}
pub use Rattle.fed_model.specs.Plan.{PlanValue, plan_reads}
use Rattle.fed_easy.specs.declared.queues.QueuedJob.{QueuedJob}
use Rattle.fed_easy.specs.Use.{end_with, fits, shadow, with_job, with_jobs}

-- the longest prefix of the queue in which each job fits now, after those before it
abbrev pub front : ℕ → ℕ → (ℕ → ℕ) → List QueuedJob → List QueuedJob
front capacity now used [] = []
front capacity now used (j ∷ js) =
    if fits capacity used j now then j ∷ front capacity now (with_job now j used) js else []

-- the jobs behind it, of which the first is the head
abbrev pub behind : ℕ → ℕ → (ℕ → ℕ) → List QueuedJob → List QueuedJob
behind capacity now used queue = drop (length (front capacity now used queue)) queue

-- of the jobs, in their order, each that fits now after those before it that do
abbrev pub backfill : ℕ → ℕ → (ℕ → ℕ) → List QueuedJob → List QueuedJob
backfill capacity now used [] = []
backfill capacity now used (j ∷ js) =
    if fits capacity used j now then j ∷ backfill capacity now (with_job now j used) js
    else backfill capacity now used js

abbrev pub ids : List QueuedJob → List StampValue
ids js = map (λ j. j.id) js

-- the plan where so many jobs have started, nothing is in use from second `end` on, and these jobs are left
abbrev pub plan_behind : ℕ → ℕ → (ℕ → ℕ) → ℕ → List QueuedJob → List QueuedJob → PlanValue
plan_behind capacity now used end started [] = record { starts = ids started; head = None }
plan_behind capacity now used end started (h ∷ js) =
    let s = shadow capacity used end now h in
    record { starts = ids (started ++ backfill capacity now (with_job s h used) js); head = Some (h.id, s) }

-- the plan of a queue beside a use that is nothing from second `end` on
abbrev pub queue_plan : ℕ → ℕ → (ℕ → ℕ) → ℕ → List QueuedJob → PlanValue
queue_plan capacity now used end queue =
    let started = front capacity now used queue in
    plan_behind capacity now (with_jobs now started used) (end_with now started end) started (behind capacity now used queue)
