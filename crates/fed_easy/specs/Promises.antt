-- What every plan keeps.
use Rattle.std.specs.Prelude.{◌≡◌, ℕ, ◌<◌, ◌≤◌, List, ◌∷◌, Some}
use Rattle.fed_easy.specs.declared.bookings.Booking.{Booking}
use Rattle.fed_easy.specs.declared.queues.QueuedJob.{QueuedJob}
use Rattle.fed_easy.specs.Plan.{PlanValue, backfill, behind, front}
use Rattle.fed_easy.specs.Use.{with_job, with_jobs, IsShadow}

-- a job takes nodes and time, and at most the machine's nodes
pub record IsSized (capacity : ℕ) (j : QueuedJob) : Type 0 where
  pub nodes : 0 < j.nodes
  pub limit : 0 < j.limit
  pub narrow : j.nodes ≤ capacity

-- nothing is in use from second `end` on
abbrev pub IsIdleFrom : ℕ → (ℕ → ℕ) → Type 0
IsIdleFrom end used = (u : ℕ) → end ≤ u → used u ≡ 0

-- the use with what starts from the front
abbrev pub started_use : ℕ → ℕ → (ℕ → ℕ) → List QueuedJob → ℕ → ℕ
started_use capacity now used queue = with_jobs now (front capacity now used queue) used

-- where a head with jobs behind it is left, the plan gives it the least second, from now on, at which it fits before the
-- backfilled jobs are added, and the same is the least once they are
abbrev pub NoDelay : ℕ → ℕ → (ℕ → ℕ) → List QueuedJob → PlanValue → Type 0
NoDelay capacity now used queue plan = (h : QueuedJob) (js : List QueuedJob) → behind capacity now used queue ≡ h ∷ js →
    let started = started_use capacity now used queue in
    (s : ℕ) × (plan.head ≡ Some (h.id, s)) × IsShadow capacity started now h s
    × IsShadow capacity (with_jobs now (backfill capacity now (with_job s h started) js) started) now h s

-- the use is at most the machine's nodes at each second, from now on, at which it was before
abbrev pub KeepsWithin : ℕ → ℕ → (ℕ → ℕ) → (ℕ → ℕ) → Type 0
KeepsWithin capacity now before after = (u : ℕ) → now ≤ u → before u ≤ capacity → after u ≤ capacity

-- the machine is never committed beyond its nodes by what starts, nor by it together with the head's time
pub record StaysWithin (capacity now : ℕ) (used : ℕ → ℕ) (queue : List QueuedJob) (plan : PlanValue) : Type 0 where
  pub front : KeepsWithin capacity now used (started_use capacity now used queue)
  pub whole : (h : QueuedJob) (js : List QueuedJob) (s : ℕ) → behind capacity now used queue ≡ h ∷ js →
      plan.head ≡ Some (h.id, s) →
      let ahead = with_job s h (started_use capacity now used queue) in
      KeepsWithin capacity now used (with_jobs now (backfill capacity now ahead js) ahead)

-- the booking is over by now
abbrev pub IsOver : ℕ → Booking → Type 0
IsOver now b = b.until ≤ now
