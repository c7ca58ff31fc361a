-- The front of a queue, and the jobs behind it, job by job.
use Rattle.std.proofs.Common.{◌≡◌, ℕ, suc, ◌≤◌, ◌<◌, Bool, true, false, cond, List, [], ◌∷◌, ◌++◌, length, take, drop, drop-cons, refl, sym, ◌∙◌, ap, append_assoc}
use Rattle.std.specs.Prelude.{slice_index_or, Some}
use Rattle.std.proofs.lemmas.List.{map_push, map-append}
use Rattle.std.proofs.Math.Seq.{take-suc}
use Rattle.fed_stamp.specs.Stamp.{StampValue}
use Rattle.fed_easy.specs.declared.queues.QueuedJob.{QueuedJob}
use Rattle.fed_easy.specs.Use.{end_with, fits, shadow, with_job, with_jobs, IsShadow}
use Rattle.fed_easy.specs.Plan.{PlanValue, front, behind, backfill, ids, queue_plan}
use Rattle.fed_easy.specs.Promises.{IsIdleFrom}
use Rattle.fed_easy.proofs.FirstFit.{shadow_is}
use Rattle.fed_easy.proofs.Started.{idle_started}

pub with_jobs_push : (now : ℕ) (js : List QueuedJob) (j : QueuedJob) (used : ℕ → ℕ) → with_jobs now (js ++ j ∷ []) used ≡ with_job now j (with_jobs now js used)
with_jobs_push now [] j used = refl
with_jobs_push now (k ∷ js) j used = with_jobs_push now js j (with_job now k used)

append_none : (js : List QueuedJob) → js ++ [] ≡ js
append_none [] = refl
append_none (j ∷ js) = ap (λ (ks : List QueuedJob). j ∷ ks) (append_none js)

pub ids_push : (js : List QueuedJob) (j : QueuedJob) → ids (js ++ j ∷ []) ≡ ids js ++ j.id ∷ []
ids_push js j = map_push (λ (j : QueuedJob). j.id) js j

-- the jobs behind the front, job by job
pub behind_next : (capacity now : ℕ) (used : ℕ → ℕ) (j : QueuedJob) (js : List QueuedJob)
    → behind capacity now used (j ∷ js) ≡ cond (fits capacity used j now) (behind capacity now (with_job now j used) js) (j ∷ js)
behind_next capacity now used j js = go (fits capacity used j now) where
  go : (t : Bool) → drop (length (cond t (j ∷ front capacity now (with_job now j used) js) [])) (j ∷ js) ≡ cond t (behind capacity now (with_job now j used) js) (j ∷ js)
  go true = refl
  go false = refl

module _ (capacity now : ℕ) (queue : List QueuedJob) (i : ℕ) where
  module _ (x : QueuedJob) (lt : i < length queue) (is : x ≡ slice_index_or queue i x) where
    pub rest_is : drop i queue ≡ x ∷ drop (suc i) queue
    rest_is = drop-cons queue i x lt ∙ ap (λ (y : QueuedJob). y ∷ drop (suc i) queue) (sym is)

    pub taken_more : take (suc i) queue ≡ take i queue ++ x ∷ []
    taken_more = take-suc queue i x lt ∙ ap (λ (y : QueuedJob). take i queue ++ y ∷ []) (sym is)

    module _ (used : ℕ → ℕ) where
      pub front_more : fits capacity (with_jobs now (take i queue) used) x now ≡ true
          → front capacity now used queue ≡ take i queue ++ front capacity now (with_jobs now (take i queue) used) (drop i queue)
          → front capacity now used queue ≡ take (suc i) queue ++ front capacity now (with_jobs now (take (suc i) queue) used) (drop (suc i) queue)
      front_more passes so_far =
          let step : front capacity now (with_jobs now (take i queue) used) (drop i queue) ≡ x ∷ front capacity now (with_job now x (with_jobs now (take i queue) used)) (drop (suc i) queue) =
          rw (rest_is, passes) refl in
          so_far ∙ rw (step, taken_more, with_jobs_push) (sym (append_assoc (take i queue) (x ∷ []) _))

      pub front_stops : fits capacity (with_jobs now (take i queue) used) x now ≡ false
          → front capacity now used queue ≡ take i queue ++ front capacity now (with_jobs now (take i queue) used) (drop i queue)
          → front capacity now used queue ≡ take i queue
      front_stops fails so_far =
          let step : front capacity now (with_jobs now (take i queue) used) (drop i queue) ≡ [] = rw (rest_is, fails) refl in
          so_far ∙ rw step (append_none (take i queue))

      pub behind_more : fits capacity (with_jobs now (take i queue) used) x now ≡ true
          → behind capacity now used queue ≡ behind capacity now (with_jobs now (take i queue) used) (drop i queue)
          → behind capacity now used queue ≡ behind capacity now (with_jobs now (take (suc i) queue) used) (drop (suc i) queue)
      behind_more passes so_far =
          let step : behind capacity now (with_jobs now (take i queue) used) (drop i queue) ≡ behind capacity now (with_job now x (with_jobs now (take i queue) used)) (drop (suc i) queue) =
          ap (behind capacity now (with_jobs now (take i queue) used)) rest_is
          ∙ behind_next capacity now (with_jobs now (take i queue) used) x (drop (suc i) queue) ∙ rw passes refl in
          so_far ∙ step ∙ rw (taken_more, with_jobs_push) refl

      pub behind_stops : fits capacity (with_jobs now (take i queue) used) x now ≡ false
          → behind capacity now used queue ≡ behind capacity now (with_jobs now (take i queue) used) (drop i queue)
          → behind capacity now used queue ≡ drop i queue
      behind_stops fails so_far =
          so_far ∙ ap (behind capacity now (with_jobs now (take i queue) used)) rest_is
          ∙ behind_next capacity now (with_jobs now (take i queue) used) x (drop (suc i) queue) ∙ rw fails (sym rest_is)

      pub backfill_starts : fits capacity used x now ≡ true → backfill capacity now used (drop i queue) ≡ x ∷ backfill capacity now (with_job now x used) (drop (suc i) queue)
      backfill_starts passes = rw (rest_is, passes) refl

      pub backfill_passes : fits capacity used x now ≡ false → backfill capacity now used (drop i queue) ≡ backfill capacity now used (drop (suc i) queue)
      backfill_passes fails = rw (rest_is, fails) refl

-- a plan of its parts
pub plan_with_head : (capacity now end : ℕ) (used : ℕ → ℕ) (queue started rest : List QueuedJob) (h : QueuedJob) (s : ℕ) (starts : List StampValue) → IsIdleFrom end used → h.nodes ≤ capacity
    → front capacity now used queue ≡ started → behind capacity now used queue ≡ h ∷ rest
    → IsShadow capacity (with_jobs now started used) now h s → starts ≡ ids started ++ ids (backfill capacity now (with_job s h (with_jobs now started used)) rest)
    → (let p : PlanValue = record { starts = starts; head = Some (h.id, s) } in p ≡ queue_plan capacity now used end queue)
plan_with_head capacity now end used queue started rest h s starts idle narrow same_front same_behind least e =
    let same : s ≡ shadow capacity (with_jobs now started used) (end_with now started end) now h =
    shadow_is capacity now (end_with now started end) (with_jobs now started used) h (idle_started now started used end idle) narrow s least in
    let all : starts ≡ ids (started ++ backfill capacity now (with_job s h (with_jobs now started used)) rest) =
    e ∙ sym (map-append (λ (j : QueuedJob). j.id) started (backfill capacity now (with_job s h (with_jobs now started used)) rest)) in
    rw (same_behind, same_front, ← same, all) refl
