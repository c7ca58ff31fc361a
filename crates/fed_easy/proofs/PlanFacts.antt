-- What holds of the plan of a queue.
use Rattle.std.proofs.Common.{◌≡◌, ℕ, List, ◌∷◌, Option, Some, unwrap_or, sym, ap, subst, ◌∙◌, refl}
use Rattle.std.specs.List.{AllByRecursion}
use Rattle.fed_stamp.specs.Stamp.{StampValue}
use Rattle.fed_easy.specs.declared.queues.QueuedJob.{QueuedJob}
use Rattle.fed_easy.specs.Plan.{behind, front, queue_plan}
use Rattle.fed_easy.specs.Promises.{IsIdleFrom, IsSized, NoDelay, StaysWithin, started_use}
use Rattle.fed_easy.specs.Use.{end_with, shadow, IsShadow}
use Rattle.fed_easy.proofs.FirstFit.{shadow_least}
use Rattle.fed_easy.proofs.NoDelay.{no_delay}
use Rattle.fed_easy.proofs.Started.{all_behind, idle_started}
use Rattle.fed_easy.proofs.Within.{front_within, behind_head_within}

module _ (capacity now end : ℕ) (used : ℕ → ℕ) (queue : List QueuedJob) (idle : IsIdleFrom end used)
    (sized : AllByRecursion (IsSized capacity) queue) where
  -- the shadow of a head
  abbrev shadow_of : QueuedJob → ℕ
  shadow_of h = shadow capacity (started_use capacity now used queue) (end_with now (front capacity now used queue) end) now h

  head_is : (h : QueuedJob) (js : List QueuedJob) → behind capacity now used queue ≡ h ∷ js → (queue_plan capacity now used end queue).head ≡ Some (h.id, shadow_of h)
  head_is h js is = rw is refl

  least : (h : QueuedJob) (js : List QueuedJob) → behind capacity now used queue ≡ h ∷ js → IsShadow capacity (started_use capacity now used queue) now h (shadow_of h)
  least h js is =
      let left : AllByRecursion (IsSized capacity) (h ∷ js) = subst (AllByRecursion (IsSized capacity)) is (all_behind (IsSized capacity) capacity now queue used sized) in
      shadow_least capacity now (end_with now (front capacity now used queue) end) (started_use capacity now used queue) h
      (idle_started now (front capacity now used queue) used end idle) left.0.narrow

  pub not_delayed : NoDelay capacity now used queue (queue_plan capacity now used end queue)
  not_delayed h js is =
      let s : ℕ = shadow_of h in
      let first = least h js is in
      (s, head_is h js is, first, no_delay capacity now h s js (started_use capacity now used queue) first)

  pub stays_within : StaysWithin capacity now used queue (queue_plan capacity now used end queue)
  stays_within = record {
    front = front_within capacity now queue used;
    whole = λ h js s is head.
        let same : s ≡ shadow_of h = ap (λ (o : Option (StampValue × ℕ)). (unwrap_or o (h.id, 0)).1) (sym head ∙ head_is h js is) in
        let first : IsShadow capacity (started_use capacity now used queue) now h s = subst (IsShadow capacity (started_use capacity now used queue) now h) (sym same) (least h js is) in
        λ u from le. behind_head_within capacity now (started_use capacity now used queue) h s js first u from (front_within capacity now queue used u from le);
  }
