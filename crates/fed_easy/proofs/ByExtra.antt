-- Where the use doesn't rise from now on, the plan is that of free and extra nodes.
use Rattle.std.proofs.Common.{◌≡◌, ℕ, ◌+◌, ◌-◌, ◌≤◌, ◌<◌, Bool, true, false, cond, leb, List, [], ◌∷◌, ◌++◌, Some, zero, suc, refl, sym, ap, ◌∙◌, arith, inl, inr}
use Rattle.std.specs.Prelude.{◌&&◌, ◌||◌}
use Rattle.std.specs.List.{AllByRecursion}
use Rattle.std.proofs.lemmas.Bool.{and_parts, and_from, or_cases, leb-true, leb-false, le-leb, lt-leb, le-ltb, cases_lt}
use Rattle.fed_easy.specs.declared.queues.QueuedJob.{QueuedJob}
use Rattle.fed_easy.specs.Use.{end_with, first_fit, is_during, shadow, with_job, with_jobs, fits, IsShadow}
use Rattle.fed_easy.specs.Plan.{PlanValue, front, behind, backfill, ids, plan_behind, queue_plan}
use Rattle.fed_easy.specs.Extra.{free_at, front_by_free, ends_by, backfill_by_extra, extra_plan, extra_plan_behind, first_free}
use Rattle.fed_easy.specs.Promises.{IsIdleFrom, IsSized}
use Rattle.fed_easy.proofs.FirstFit.{shadow_least}
use Rattle.fed_easy.proofs.Fits.{Fits, fits-true, Fits-fits, same_test}
use Rattle.fed_easy.proofs.NoDelay.{during, within, with_job_swap, job_used, at_second}
use Rattle.fed_easy.proofs.Fronts.{behind_next}
use Rattle.fed_easy.proofs.Started.{all_behind, idle_started}

-- from now on the use doesn't rise
abbrev pub Falls : ℕ → (ℕ → ℕ) → Type 0
Falls now used = (u v : ℕ) → now ≤ u → u ≤ v → used v ≤ used u

pub part_less : (s t : Bool) (n a b : ℕ) → (s ≡ true → t ≡ true) → a ≤ b → cond s n 0 + a ≤ cond t n 0 + b
part_less true true n a b h le = omega arith
part_less false true n a b h le = omega arith
part_less false false n a b h le = omega arith
part_less true false n a b h le = absurd (let e : false ≡ true = h refl in cc)

-- a job that starts now leaves a use that doesn't rise
falls_job : (now : ℕ) (j : QueuedJob) (used : ℕ → ℕ) → Falls now used → Falls now (with_job now j used)
falls_job now j used h u v from le =
    part_less (is_during now (now + j.limit) v) (is_during now (now + j.limit) u) j.nodes (used v) (used u)
    (λ e. let inside = within now (now + j.limit) v e in during now (now + j.limit) u from (omega (arith, inside.1)))
    (h u v from le)

-- a job fits where its nodes are free
pub fits_free : (capacity now : ℕ) (used : ℕ → ℕ) (j : QueuedJob) (t : ℕ) → Falls now used → now ≤ t → used t + j.nodes ≤ capacity → Fits capacity used j t
fits_free capacity now used j t h from room u after until = let less = h t u from after in omega arith

front_step : (capacity now : ℕ) (used : ℕ → ℕ) (j : QueuedJob) → Falls now used → IsSized capacity j → fits capacity used j now ≡ leb j.nodes (free_at capacity used now)
front_step capacity now used j h some =
    same_test (fits capacity used j now) (leb j.nodes (free_at capacity used now))
    (λ e. let room = fits-true capacity used j now e now (omega arith) (omega (arith, some.limit)) in le-leb j.nodes (free_at capacity used now) (omega arith))
    (λ e. let free = leb-true j.nodes (free_at capacity used now) e in Fits-fits capacity used j now (fits_free capacity now used j now h (omega arith) (omega (arith, some.nodes))))

less_free : (capacity n used : ℕ) → capacity - (n + used) ≡ (capacity - used) - n
less_free capacity n used = omega arith

-- the front of the queue by free nodes
pub front_free : (capacity now : ℕ) (js : List QueuedJob) (used : ℕ → ℕ) → Falls now used → AllByRecursion (IsSized capacity) js → front capacity now used js ≡ front_by_free (free_at capacity used now) js
front_free capacity now [] used h some = refl
front_free capacity now (j ∷ js) used h some =
    let rest : front capacity now (with_job now j used) js ≡ front_by_free (free_at capacity used now - j.nodes) js =
    front_free capacity now js (with_job now j used) (falls_job now j used h) some.1 ∙ ap (λ free. front_by_free free js) (ap (λ n. capacity - n) (job_used now now j used (omega arith) (omega (arith, some.0.limit))) ∙ less_free capacity j.nodes (used now)) in
    rw (front_step capacity now used j h some.0, rest) refl

-- ---- behind the head

not_yet : (now s : ℕ) (used : ℕ → ℕ) (head : QueuedJob) → now < s → with_job s head used now ≡ used now
not_yet now s used head before = rw (lt-leb s now before) (omega arith)

module _ (capacity now : ℕ) (head : QueuedJob) (s : ℕ) (before : now < s) (long : 0 < head.limit) where
  fits_extra : (used : ℕ → ℕ) (j : QueuedJob) → IsSized capacity j → Fits capacity (with_job s head used) j now → (t : Bool) → ends_by now s j ≡ t → (t || leb j.nodes ((capacity - used s) - head.nodes)) ≡ true
  fits_extra used j some f true e = refl
  fits_extra used j some f false e =
      let late : s < now + j.limit = leb-false (now + j.limit) s e in
      let room : with_job s head used s + j.nodes ≤ capacity = f s (omega arith) late in
      let counted : (head.nodes + used s) + j.nodes ≤ capacity = rw (job_used s s head used (omega arith) (omega arith)) at room in
      le-leb j.nodes ((capacity - used s) - head.nodes) (omega arith)

  extra_fits : (used : ℕ → ℕ) (j : QueuedJob) → Falls now used → used s + head.nodes ≤ capacity → IsSized capacity j → j.nodes ≤ capacity - used now
      → (ends_by now s j || leb j.nodes ((capacity - used s) - head.nodes)) ≡ true → Fits capacity (with_job s head used) j now
  extra_fits used j begun room some free e u from until =
      let less_now = begun now u (omega arith) from in
      at_second (is_during s (s + head.limit) u) head.nodes (used u) j.nodes capacity
      (λ t.
      let inside = within s (s + head.limit) u t in
      let less = begun s u (omega arith) inside.0 in
      elim (or_cases (ends_by now s j) (leb j.nodes ((capacity - used s) - head.nodes)) e) [
        | inl ends ↦ let by = leb-true (now + j.limit) s ends in absurd (omega (arith, inside.0))
        | inr extra ↦ let within_extra = leb-true j.nodes ((capacity - used s) - head.nodes) extra in omega (arith, some.nodes)
      ])
      (omega (arith, some.nodes))

  same_choice : (used : ℕ → ℕ) (j : QueuedJob) → Falls now used → used s + head.nodes ≤ capacity → IsSized capacity j
      → fits capacity (with_job s head used) j now ≡ (leb j.nodes (capacity - used now) && (ends_by now s j || leb j.nodes ((capacity - used s) - head.nodes)))
  same_choice used j begun room some =
      same_test (fits capacity (with_job s head used) j now) (leb j.nodes (capacity - used now) && (ends_by now s j || leb j.nodes ((capacity - used s) - head.nodes)))
      (λ e.
      let f = fits-true capacity (with_job s head used) j now e in
      let here : used now + j.nodes ≤ capacity = rw (not_yet now s used head before) at (f now (omega arith) (omega (arith, some.limit))) in
      and_from _ _ (le-leb j.nodes (capacity - used now) (omega arith)) (fits_extra used j some f (ends_by now s j) refl))
      (λ e.
      let both = and_parts (leb j.nodes (capacity - used now)) (ends_by now s j || leb j.nodes ((capacity - used s) - head.nodes)) e in
      Fits-fits capacity (with_job s head used) j now (extra_fits used j begun room some (leb-true j.nodes (capacity - used now) both.0) both.1))

  extra_left : (used : ℕ → ℕ) (j : QueuedJob) (t : Bool) → ends_by now s j ≡ t
      → (capacity - with_job now j used s) - head.nodes ≡ cond t ((capacity - used s) - head.nodes) (((capacity - used s) - head.nodes) - j.nodes)
  extra_left used j true e =
      let by = leb-true (now + j.limit) s e in
      rw (le-leb now s (omega arith), le-ltb s (now + j.limit) by) (omega arith)
  extra_left used j false e =
      let late = leb-false (now + j.limit) s e in
      rw (job_used now s j used (omega arith) late) (omega arith)

  room_left : (used : ℕ → ℕ) (j : QueuedJob) → used s + head.nodes ≤ capacity → Fits capacity (with_job s head used) j now → with_job now j used s + head.nodes ≤ capacity
  room_left used j room f =
      at_second (is_during now (now + j.limit) s) j.nodes (used s) head.nodes capacity
      (λ t.
      let inside = within now (now + j.limit) s t in
      let counted : (head.nodes + used s) + j.nodes ≤ capacity = rw (job_used s s head used (omega arith) (omega arith)) at (f s inside.0 inside.1) in
      omega arith)
      room

  abbrev Agree : (ℕ → ℕ) → List QueuedJob → Type 0
  Agree used js = backfill capacity now (with_job s head used) js ≡ backfill_by_extra now s (capacity - used now) ((capacity - used s) - head.nodes) js

  choice : (used : ℕ → ℕ) (j : QueuedJob) (js : List QueuedJob) → Falls now used → used s + head.nodes ≤ capacity → IsSized capacity j
      → ((used : ℕ → ℕ) → Falls now used → used s + head.nodes ≤ capacity → Agree used js) → (t : Bool) → fits capacity (with_job s head used) j now ≡ t → Agree used (j ∷ js)
  choice used j js begun room some later true e =
      let chosen : (leb j.nodes (capacity - used now) && (ends_by now s j || leb j.nodes ((capacity - used s) - head.nodes))) ≡ true = sym (same_choice used j begun room some) ∙ e in
      let left : capacity - with_job now j used now ≡ (capacity - used now) - j.nodes = ap (λ n. capacity - n) (job_used now now j used (omega arith) (omega (arith, some.limit))) ∙ less_free capacity j.nodes (used now) in
      let extra = extra_left used j (ends_by now s j) refl in
      let rest = later (with_job now j used) (falls_job now j used begun) (room_left used j room (fits-true capacity (with_job s head used) j now e)) in
      let renamed : backfill_by_extra now s (capacity - with_job now j used now) ((capacity - with_job now j used s) - head.nodes) js
      ≡ backfill_by_extra now s ((capacity - used now) - j.nodes) (cond (ends_by now s j) ((capacity - used s) - head.nodes) (((capacity - used s) - head.nodes) - j.nodes)) js = rw (left, extra) refl in
      rw (e, chosen) (ap (λ (js : List QueuedJob). j ∷ js) (ap (λ (more : ℕ → ℕ). backfill capacity now more js) (with_job_swap now s j head used) ∙ rest ∙ renamed))
  choice used j js begun room some later false e =
      let passed : (leb j.nodes (capacity - used now) && (ends_by now s j || leb j.nodes ((capacity - used s) - head.nodes))) ≡ false = sym (same_choice used j begun room some) ∙ e in
      rw (e, passed) (later used begun room)

  -- the jobs behind the head by free and extra nodes
  pub backfill_extra : (js : List QueuedJob) (used : ℕ → ℕ) → Falls now used → used s + head.nodes ≤ capacity → AllByRecursion (IsSized capacity) js → Agree used js
  backfill_extra [] used begun room some = refl
  backfill_extra (j ∷ js) used begun room some =
      choice used j js begun room some.0 (λ used begun room. backfill_extra js used begun room some.1) (fits capacity (with_job s head used) j now) refl

-- ---- the whole plan

falls_started : (now : ℕ) (js : List QueuedJob) (used : ℕ → ℕ) → Falls now used → Falls now (with_jobs now js used)
falls_started now [] used h = h
falls_started now (j ∷ js) used h = falls_started now js (with_job now j used) (falls_job now j used h)

not_now_step : (t : Bool) (capacity now : ℕ) (used : ℕ → ℕ) (j : QueuedJob) (js : List QueuedJob) (h : QueuedJob) (rest : List QueuedJob) → fits capacity used j now ≡ t
    → (behind capacity now (with_job now j used) js ≡ h ∷ rest → fits capacity (with_jobs now (front capacity now (with_job now j used) js) (with_job now j used)) h now ≡ false)
    → cond t (behind capacity now (with_job now j used) js) (j ∷ js) ≡ h ∷ rest → fits capacity (with_jobs now (cond t (j ∷ front capacity now (with_job now j used) js) []) used) h now ≡ false
not_now_step true capacity now used j js h rest e later is = later is
not_now_step false capacity now used j js h rest e later is = let same : j ≡ h = cc in rw same at e

-- the head does not fit now
not_now : (capacity now : ℕ) (js : List QueuedJob) (used : ℕ → ℕ) (h : QueuedJob) (rest : List QueuedJob) → behind capacity now used js ≡ h ∷ rest → fits capacity (with_jobs now (front capacity now used js) used) h now ≡ false
not_now capacity now [] used h rest is = absurd cc
not_now capacity now (j ∷ js) used h rest is =
    not_now_step (fits capacity used j now) capacity now used j js h rest refl (not_now capacity now js (with_job now j used) h rest)
    (sym (behind_next capacity now used j js) ∙ is)

-- the nodes are free at the same seconds at which the job fits
same_first : (capacity now : ℕ) (used : ℕ → ℕ) (j : QueuedJob) (k t : ℕ) → Falls now used → IsSized capacity j → now ≤ t
    → first_free capacity used j k t ≡ first_fit capacity used j k t
same_first capacity now used j zero t begun some from = refl
same_first capacity now used j (suc k) t begun some from =
    let test : fits capacity used j t ≡ leb j.nodes (free_at capacity used t) = front_step capacity t used j (λ u v after le. begun u v (omega arith) le) some in
    let rest = same_first capacity now used j k (suc t) begun some (omega arith) in
    rw (test, rest) refl

later_than_now : (capacity now : ℕ) (used : ℕ → ℕ) (h : QueuedJob) (s : ℕ) → fits capacity used h now ≡ false → IsShadow capacity used now h s → now < s
later_than_now capacity now used h s e shadow =
    elim (cases_lt now s) [
      | inl lt ↦ lt
      | inr le ↦
          let same : s ≡ now = omega (arith, shadow.from_now) in
          let fit : fits capacity used h now ≡ true = Fits-fits capacity used h now (rw same at shadow.room) in
          absurd cc
    ]

plans_behind : (capacity now end : ℕ) (used : ℕ → ℕ) (started left : List QueuedJob) → Falls now used → IsIdleFrom end used → AllByRecursion (IsSized capacity) left
    → ((h : QueuedJob) (rest : List QueuedJob) → left ≡ h ∷ rest → fits capacity used h now ≡ false)
    → plan_behind capacity now used end started left ≡ extra_plan_behind capacity now used end started left
plans_behind capacity now end used started [] begun idle some waits = refl
plans_behind capacity now end used started (h ∷ js) begun idle some waits =
    let s : ℕ = shadow capacity used end now h in
    let least : IsShadow capacity used now h s = shadow_least capacity now end used h idle some.0.narrow in
    let after = later_than_now capacity now used h s (waits h js refl) least in
    let room : used s + h.nodes ≤ capacity = least.room s (omega arith) (omega (arith, some.0.limit)) in
    let same : first_free capacity used h (end - now) now ≡ s = same_first capacity now used h (end - now) now begun some.0 (omega arith) in
    let rest : backfill capacity now (with_job s h used) js ≡ backfill_by_extra now s (capacity - used now) ((capacity - used s) - h.nodes) js
    = backfill_extra capacity now h s after some.0.limit js used begun room some.1 in
    let plan : List QueuedJob → PlanValue = λ bs. record { starts = ids (started ++ bs); head = Some (h.id, s) } in
    rw same (ap plan rest)

pub by_extra_nodes : (capacity now end : ℕ) (used : ℕ → ℕ) (queue : List QueuedJob) → Falls now used → IsIdleFrom end used → AllByRecursion (IsSized capacity) queue
    → queue_plan capacity now used end queue ≡ extra_plan capacity now used end queue
by_extra_nodes capacity now end used queue begun idle some =
    let started : List QueuedJob = front capacity now used queue in
    let same = plans_behind capacity now (end_with now started end) (with_jobs now started used) started (behind capacity now used queue) (falls_started now started used begun)
    (idle_started now started used end idle) (all_behind (IsSized capacity) capacity now queue used some) (λ h rest is. not_now capacity now queue used h rest is) in
    rw (← front_free capacity now queue used begun some) same
