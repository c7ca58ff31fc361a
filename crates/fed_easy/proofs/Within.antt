-- A plan commits no more than the machine has.
use Rattle.std.proofs.Common.{◌≡◌, ℕ, ◌+◌, ◌≤◌, Bool, true, false, cond, List, [], ◌∷◌, refl}
use Rattle.std.proofs.Common.{arith}
use Rattle.fed_easy.specs.declared.queues.QueuedJob.{QueuedJob}
use Rattle.fed_easy.specs.Use.{is_during, with_job, with_jobs, fits, IsShadow}
use Rattle.fed_easy.specs.Plan.{front, backfill}
use Rattle.fed_easy.specs.Promises.{KeepsWithin}
use Rattle.fed_easy.proofs.Fits.{Fits, fits-true}
use Rattle.fed_easy.proofs.NoDelay.{within}

part_within : (t : Bool) (n m capacity : ℕ) → (t ≡ true → m + n ≤ capacity) → m ≤ capacity → cond t n 0 + m ≤ capacity
part_within true n m capacity inside outside = let both = inside refl in omega arith
part_within false n m capacity inside outside = omega arith

-- a job that fits keeps within
job_within : (capacity t u : ℕ) (used : ℕ → ℕ) (j : QueuedJob) → Fits capacity used j t → used u ≤ capacity → with_job t j used u ≤ capacity
job_within capacity t u used j f le =
    part_within (is_during t (t + j.limit) u) j.nodes (used u) capacity
    (λ e. let inside = within t (t + j.limit) u e in f u inside.0 inside.1) le

module _ (capacity now : ℕ) where
  front_step : (t : Bool) (used : ℕ → ℕ) (j : QueuedJob) (js : List QueuedJob) → fits capacity used j now ≡ t
      → KeepsWithin capacity now (with_job now j used) (with_jobs now (front capacity now (with_job now j used) js) (with_job now j used))
      → KeepsWithin capacity now used (with_jobs now (cond t (j ∷ front capacity now (with_job now j used) js) []) used)
  front_step true used j js e later u from le = later u from (job_within capacity now u used j (fits-true capacity used j now e) le)
  front_step false used j js e later u from le = le

  pub front_within : (js : List QueuedJob) (used : ℕ → ℕ) → KeepsWithin capacity now used (with_jobs now (front capacity now used js) used)
  front_within [] used = λ u from le. le
  front_within (j ∷ js) used = front_step (fits capacity used j now) used j js refl (front_within js (with_job now j used))

  backfill_step : (t : Bool) (used : ℕ → ℕ) (j : QueuedJob) (js : List QueuedJob) → fits capacity used j now ≡ t
      → KeepsWithin capacity now (with_job now j used) (with_jobs now (backfill capacity now (with_job now j used) js) (with_job now j used))
      → KeepsWithin capacity now used (with_jobs now (backfill capacity now used js) used)
      → KeepsWithin capacity now used (with_jobs now (cond t (j ∷ backfill capacity now (with_job now j used) js) (backfill capacity now used js)) used)
  backfill_step true used j js e started passed u from le = started u from (job_within capacity now u used j (fits-true capacity used j now e) le)
  backfill_step false used j js e started passed u from le = passed u from le

  pub backfill_within : (js : List QueuedJob) (used : ℕ → ℕ) → KeepsWithin capacity now used (with_jobs now (backfill capacity now used js) used)
  backfill_within [] used = λ u from le. le
  backfill_within (j ∷ js) used = backfill_step (fits capacity used j now) used j js refl (backfill_within js (with_job now j used)) (backfill_within js used)

  pub behind_head_within : (used : ℕ → ℕ) (head : QueuedJob) (s : ℕ) (js : List QueuedJob) → IsShadow capacity used now head s
      → KeepsWithin capacity now used (with_jobs now (backfill capacity now (with_job s head used) js) (with_job s head used))
  behind_head_within used head s js shadow u from le = backfill_within js (with_job s head used) u from (job_within capacity s u used head shadow.room le)
