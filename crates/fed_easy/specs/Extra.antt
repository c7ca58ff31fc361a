-- The same plan by free and extra nodes.
use Rattle.std.specs.Prelude.{ℕ, zero, suc, ◌+◌, ◌-◌, ◌&&◌, ◌||◌, List, [], ◌∷◌, ◌++◌, drop, length, Bool, nat_le, if◌then◌else◌, Some, None}
use Rattle.fed_easy.specs.declared.queues.QueuedJob.{QueuedJob}
use Rattle.fed_easy.specs.Plan.{PlanValue, ids}
use Rattle.fed_easy.specs.Use.{end_with, with_jobs}

-- the machine's nodes less those in use
abbrev pub free_at : ℕ → (ℕ → ℕ) → ℕ → ℕ
free_at capacity used u = capacity - used u

-- from the front, while their nodes are at most those free
abbrev pub front_by_free : ℕ → List QueuedJob → List QueuedJob
front_by_free free [] = []
front_by_free free (j ∷ js) = if nat_le j.nodes free then j ∷ front_by_free (free - j.nodes) js else []

-- the jobs behind those
abbrev pub behind_by_free : ℕ → List QueuedJob → List QueuedJob
behind_by_free free queue = drop (length (front_by_free free queue)) queue

-- the job ends by second s where it starts now
abbrev pub ends_by : ℕ → ℕ → QueuedJob → Bool
ends_by now s j = nat_le (now + j.limit) s

-- each whose nodes are at most those free, and that ends by the shadow or needs at most the extra nodes
abbrev pub backfill_by_extra : ℕ → ℕ → ℕ → ℕ → List QueuedJob → List QueuedJob
backfill_by_extra now s free extra [] = []
backfill_by_extra now s free extra (j ∷ js) =
    if nat_le j.nodes free && (ends_by now s j || nat_le j.nodes extra) then
    j ∷ backfill_by_extra now s (free - j.nodes) (if ends_by now s j then extra else extra - j.nodes) js
    else backfill_by_extra now s free extra js

-- the first of so many seconds from t on at which the job's nodes are free, or the second behind them
abbrev pub first_free : ℕ → (ℕ → ℕ) → QueuedJob → ℕ → ℕ → ℕ
first_free capacity used j zero t = t
first_free capacity used j (suc k) t =
    if nat_le j.nodes (free_at capacity used t) then t else first_free capacity used j k (suc t)

-- the plan where so many jobs have started, nothing is in use from second `end` on, and these jobs are left
abbrev pub extra_plan_behind : ℕ → ℕ → (ℕ → ℕ) → ℕ → List QueuedJob → List QueuedJob → PlanValue
extra_plan_behind capacity now used end started [] = record { starts = ids started; head = None }
extra_plan_behind capacity now used end started (h ∷ js) =
    let s = first_free capacity used h (end - now) now in
    let extra = free_at capacity used s - h.nodes in
    record {
      starts = ids (started ++ backfill_by_extra now s (free_at capacity used now) extra js);
      head = Some (h.id, s);
    }

-- the plan of a queue by free and extra nodes
abbrev pub extra_plan : ℕ → ℕ → (ℕ → ℕ) → ℕ → List QueuedJob → PlanValue
extra_plan capacity now used end queue =
    let free = free_at capacity used now in
    let started = front_by_free free queue in
    extra_plan_behind capacity now (with_jobs now started used) (end_with now started end) started
    (behind_by_free free queue)
