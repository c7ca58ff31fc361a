-- No backfilled job delays the head.
use Rattle.std.proofs.Common.{◌≡◌, ℕ, ◌+◌, ◌≤◌, ◌<◌, Bool, true, false, cond, leb, ltb, List, [], ◌∷◌, refl, sym, subst, arith}
use Rattle.std.proofs.lemmas.Bool.{and_parts, and_from, leb-true, le-leb, ltb-true, lt-ltb}
use Rattle.fed_easy.specs.declared.queues.QueuedJob.{QueuedJob}
use Rattle.fed_easy.specs.Use.{is_during, with_job, with_jobs, fits, IsShadow}
use Rattle.fed_easy.specs.Plan.{backfill}
use Rattle.fed_easy.proofs.Fits.{Fits, fits-true}

pub during : (from until u : ℕ) → from ≤ u → u < until → is_during from until u ≡ true
during from until u le lt = and_from (leb from u) (ltb u until) (le-leb from u le) (lt-ltb u until lt)

pub within : (from until u : ℕ) → is_during from until u ≡ true → (from ≤ u) × (u < until)
within from until u e =
    let both = and_parts (leb from u) (ltb u until) e in
    (leb-true from u both.0, ltb-true u until both.1)

-- the order in which times are added does not matter
swap : (a b c : ℕ) → a + (b + c) ≡ b + (a + c)
swap a b c = omega arith

pub with_job_swap : (s t : ℕ) (j k : QueuedJob) (used : ℕ → ℕ) → with_job s j (with_job t k used) ≡ with_job t k (with_job s j used)
with_job_swap s t j k used = λ i u. swap (cond (is_during s (s + j.limit) u) j.nodes 0) (cond (is_during t (t + k.limit) u) k.nodes 0) (used u) i

pub job_used : (t u : ℕ) (j : QueuedJob) (used : ℕ → ℕ) → t ≤ u → u < t + j.limit → with_job t j used u ≡ j.nodes + used u
job_used t u j used from until = rw (during t (t + j.limit) u from until) refl

-- the nodes of a job at u, with what is known of u on each side
pub at_second : (t : Bool) (n m h capacity : ℕ) → (t ≡ true → (n + m) + h ≤ capacity) → m + h ≤ capacity → (cond t n 0 + m) + h ≤ capacity
at_second true n m h capacity inside outside = inside refl
at_second false n m h capacity inside outside = omega arith

-- the head keeps its time beside a job that fits now with that time counted as used
pub still_fits : (capacity now : ℕ) (used : ℕ → ℕ) (head j : QueuedJob) (s : ℕ) → Fits capacity used head s → fits capacity (with_job s head used) j now ≡ true → Fits capacity (with_job now j used) head s
still_fits capacity now used head j s h e u from until =
    at_second (is_during now (now + j.limit) u) j.nodes (used u) head.nodes capacity
    (λ t.
    let inside = within now (now + j.limit) u t in
    let room : with_job s head used u + j.nodes ≤ capacity = fits-true capacity (with_job s head used) j now e u inside.0 inside.1 in
    let counted : (head.nodes + used u) + j.nodes ≤ capacity = rw (job_used s u head used from until) at room in
    omega arith)
    (h u from until)

-- what fits beside more fits beside less
pub fits_less : (capacity t s : ℕ) (j k : QueuedJob) (used : ℕ → ℕ) → Fits capacity (with_job t k used) j s → Fits capacity used j s
fits_less capacity t s j k used h u from until =
    let more = h u from until in
    omega arith

module _ (capacity now : ℕ) (head : QueuedJob) (s : ℕ) where
  step : (t : Bool) (used : ℕ → ℕ) (j : QueuedJob) (js : List QueuedJob) → t ≡ fits capacity (with_job s head used) j now → IsShadow capacity used now head s
      → ((used : ℕ → ℕ) → IsShadow capacity used now head s → IsShadow capacity (with_jobs now (backfill capacity now (with_job s head used) js) used) now head s)
      → IsShadow capacity (with_jobs now (cond t (j ∷ backfill capacity now (with_job now j (with_job s head used)) js) (backfill capacity now (with_job s head used) js)) used) now head s
  step true used j js e h later =
      let next = later (with_job now j used) (record {
        from_now = h.from_now;
        room = still_fits capacity now used head j s h.room (sym e);
        least = λ t from f. h.least t from (fits_less capacity now t head j used f);
      }) in
      subst (λ (more : ℕ → ℕ). IsShadow capacity (with_jobs now (backfill capacity now more js) (with_job now j used)) now head s) (with_job_swap s now head j used) next
  step false used j js e h later = later used h

  -- with the backfilled jobs started the shadow is the same
  pub no_delay : (js : List QueuedJob) (used : ℕ → ℕ) → IsShadow capacity used now head s
      → IsShadow capacity (with_jobs now (backfill capacity now (with_job s head used) js) used) now head s
  no_delay [] used h = h
  no_delay (j ∷ js) used h =
      step (fits capacity (with_job s head used) j now) used j js refl h (λ used h. no_delay js used h)
