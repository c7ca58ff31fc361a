-- The members of a queue are the jobs that wait.
use Rattle.std.specs.BTreeSet.{insert_key}
use Rattle.std.specs.List.{cons_option, filter_map, list_any}
use Rattle.std.specs.List.Sorted.{IsStrictlySortedBy}
use Rattle.std.specs.Ordering.{is_eq, eq_by_cmp}
use Rattle.std.specs.Prelude.{ℤ, nat_le}
use Rattle.std.proofs.Common.{◌≡◌, ◌↔◌, ◌⊎◌, inl, inr, ℕ, Bool, true, false, cond, List, [], ◌∷◌, Option, Some, None, refl, sym, ap, subst, ◌∙◌}
use Rattle.std.proofs.lemmas.Bool.{or_cases, or_left, or_right}
use Rattle.std.proofs.lemmas.Cmp.{tied_itself}
use Rattle.std.proofs.lemmas.Map.Views.{tells_apart}
use Rattle.fed_stamp.specs.Stamp.{StampValue}
use Rattle.fed_lattice.specs.Sets.{Has}
use Rattle.fed_lattice.specs.SetLaws.{found, any_from}
use Rattle.fed_lattice.specs.KeySetLaws.{sorted_insert_key, has_insert_key}
use Rattle.fed_tags.specs.TagLaws.{sorted_empty}
use Rattle.fed_model.specs.JobView.{JobView}
use Rattle.fed_model.specs.Letter.{is_granted_to}
use Rattle.fed_model.specs.Identifiers.{jobs_in}
use Rattle.fed_model.specs.View.{View}
use Rattle.fed_easy.specs.declared.queues.QueuedJob.{QueuedJob}
use Rattle.fed_easy.specs.Queue.{in_order, is_waiting, queue_in, queued, queued_with, waiting_in}
use Rattle.fed_easy.specs.QueueLaws.{queue_total, exact_queue}
use Rattle.fed_easy.specs.QueueOrder.{queue_cmp}

pub has_job : (ks : List QueuedJob) (j : QueuedJob) → Has ks j ↔ (list_any (eq_by_cmp queue_cmp j) ks ≡ true)
has_job ks j = (
  λ h. any_from (eq_by_cmp queue_cmp j) ks j h (ap is_eq (tied_itself queue_total j)),
  λ e. let f = found (eq_by_cmp queue_cmp j) ks e in subst (Has ks) (sym (tells_apart exact_queue j f.0 f.2)) f.1,
)

-- ---- one job more
more_has : (ks : List QueuedJob) (j q : QueuedJob) → list_any (eq_by_cmp queue_cmp q) (insert_key queue_cmp ks j) ≡ true → Has (insert_key queue_cmp ks j) q
more_has ks j q e = (has_job (insert_key queue_cmp ks j) q).1 e

more_from : (ks : List QueuedJob) (j q : QueuedJob) → Has (insert_key queue_cmp ks j) q → Has ks q ⊎ (j ≡ q)
more_from ks j q h =
    elim (or_cases (is_eq (queue_cmp q j)) (list_any (eq_by_cmp queue_cmp q) ks) (sym (has_insert_key queue_cmp queue_total exact_queue q j ks) ∙ (has_job (insert_key queue_cmp ks j) q).0 h)) [
      | inl same ↦ inr (sym (tells_apart exact_queue q j same))
      | inr other ↦ inl ((has_job ks q).1 other)
    ]

more_keeps : (ks : List QueuedJob) (j q : QueuedJob) → Has ks q → Has (insert_key queue_cmp ks j) q
more_keeps ks j q h =
    more_has ks j q (has_insert_key queue_cmp queue_total exact_queue q j ks ∙ or_right (is_eq (queue_cmp q j)) (list_any (eq_by_cmp queue_cmp q) ks) ((has_job ks q).0 h))

more_adds : (ks : List QueuedJob) (j : QueuedJob) → Has (insert_key queue_cmp ks j) j
more_adds ks j =
    more_has ks j j (has_insert_key queue_cmp queue_total exact_queue j j ks ∙ or_left (is_eq (queue_cmp j j)) (list_any (eq_by_cmp queue_cmp j) ks) (ap is_eq (tied_itself queue_total j)))

-- ---- all jobs
pub order_sorted : (ks js : List QueuedJob) → IsStrictlySortedBy queue_cmp ks → IsStrictlySortedBy queue_cmp (in_order ks js)
order_sorted ks [] s = s
order_sorted ks (j ∷ js) s = order_sorted (insert_key queue_cmp ks j) js (sorted_insert_key queue_cmp queue_total ks j s)

pub order_from : (ks js : List QueuedJob) (q : QueuedJob) → Has (in_order ks js) q → Has ks q ⊎ Has js q
order_from ks [] q h = inl h
order_from ks (j ∷ js) q h =
    elim (order_from (insert_key queue_cmp ks j) js q h) [
      | inl before ↦ elim (more_from ks j q before) [ inl old ↦ inl old | inr new ↦ inr (inl new) ]
      | inr later ↦ inr (inr later)
    ]

order_keeps : (ks js : List QueuedJob) (q : QueuedJob) → Has ks q → Has (in_order ks js) q
order_keeps ks [] q h = h
order_keeps ks (j ∷ js) q h = order_keeps (insert_key queue_cmp ks j) js q (more_keeps ks j q h)

pub order_adds : (ks js : List QueuedJob) (q : QueuedJob) → Has js q → Has (in_order ks js) q
order_adds ks [] q h = absurd h
order_adds ks (j ∷ js) q (inl same) = order_keeps (insert_key queue_cmp ks j) js q (subst (Has (insert_key queue_cmp ks j)) same (more_adds ks j))
order_adds ks (j ∷ js) q (inr h) = order_adds (insert_key queue_cmp ks j) js q h

-- ---- those that are kept of a list
module _ {X Y : Type 0} (f : X → Option Y) where
  cons_from : (o : Option Y) (ys : List Y) (y : Y) → Has (cons_option o ys) y → (o ≡ Some y) ⊎ Has ys y
  cons_from None ys y h = inr h
  cons_from (Some z) ys y (inl same) = inl (ap Some same)
  cons_from (Some z) ys y (inr h) = inr h

  cons_keeps : (o : Option Y) (ys : List Y) (y : Y) → Has ys y → Has (cons_option o ys) y
  cons_keeps None ys y h = h
  cons_keeps (Some z) ys y h = inr h

  cons_adds : (o : Option Y) (ys : List Y) (y : Y) → o ≡ Some y → Has (cons_option o ys) y
  cons_adds None ys y e = absurd cc
  cons_adds (Some z) ys y e = inl (let same : z ≡ y = cc in same)

  pub kept_from : (xs : List X) (y : Y) → Has (filter_map f xs) y → (x : X) × Has xs x × (f x ≡ Some y)
  kept_from [] y h = absurd h
  kept_from (x ∷ xs) y h = elim (cons_from (f x) (filter_map f xs) y h) [
    | inl here ↦ (x, inl refl, here)
    | inr later ↦ let rest = kept_from xs y later in (rest.0, inr rest.1, rest.2)
  ]

  kept_has : (xs : List X) (x : X) (y : Y) → Has xs x → f x ≡ Some y → Has (filter_map f xs) y
  kept_has [] x y h e = absurd h
  kept_has (z ∷ xs) x y (inl same) e = cons_adds (f z) (filter_map f xs) y (ap f same ∙ e)
  kept_has (z ∷ xs) x y (inr h) e = cons_keeps (f z) (filter_map f xs) y (kept_has xs x y h e)

-- ---- a job in a queue is of its identifier
with_id : (capacity : ℕ) (id : StampValue) (granted : Bool) (p : Option (StampValue × ℤ)) (n l : Option (StampValue × ℕ)) (q : QueuedJob) → queued_with capacity id granted p n l ≡ Some q → id ≡ q.id
with_id capacity id granted (Some p) (Some n) (Some l) q e = go (nat_le n.1 capacity) e
  where
    go : (t : Bool) → cond t (Some (record { is_granted = granted; priority = p.1; id = id; nodes = n.1; limit = l.1 })) None ≡ Some q → id ≡ q.id
    go true e = let same : record { is_granted = granted; priority = p.1; id = id; nodes = n.1; limit = l.1 } ≡ q = cc in ap (λ (q : QueuedJob). q.id) same
    go false e = absurd cc
with_id capacity id granted None n l q e = absurd cc
with_id capacity id granted (Some p) None l q e = absurd cc
with_id capacity id granted (Some p) (Some n) None q e = absurd cc

pub queued_id : (site capacity : ℕ) (id : StampValue) (j : JobView) (q : QueuedJob) → queued site capacity id j ≡ Some q → id ≡ q.id
queued_id site capacity id j q e = go (is_waiting site j) e
  where
    go : (t : Bool) → cond t (queued_with capacity id (is_granted_to j site) j.fields.priority j.fields.nodes j.fields.limit) None ≡ Some q → id ≡ q.id
    go true e = with_id capacity id (is_granted_to j site) j.fields.priority j.fields.nodes j.fields.limit q e
    go false e = absurd cc

-- ---- the queue of a site
module _ (v : View) (site capacity : ℕ) where
  pub queue_ordered : IsStrictlySortedBy queue_cmp (queue_in site capacity v)
  queue_ordered = order_sorted [] (waiting_in site capacity v) (sorted_empty queue_cmp)

  in_queue : (q : QueuedJob) → Has (queue_in site capacity v) q → Has (jobs_in v) q.id × (queued site capacity q.id (v.job q.id) ≡ Some q)
  in_queue q h = elim (order_from [] (waiting_in site capacity v) q h) [
    | inl none ↦ absurd none
    | inr waits ↦
        let job = kept_from (λ id. queued site capacity id (v.job id)) (jobs_in v) q waits in
        let same : job.0 ≡ q.id = queued_id site capacity job.0 (v.job job.0) q job.2 in
        (subst (Has (jobs_in v)) same job.1, subst (λ id. queued site capacity id (v.job id) ≡ Some q) same job.2)
  ]

  pub queue_members : (q : QueuedJob) → Has (queue_in site capacity v) q ↔ (Has (jobs_in v) q.id × (queued site capacity q.id (v.job q.id) ≡ Some q))
  queue_members q = (
    λ h. in_queue q h,
    λ k. order_adds [] (waiting_in site capacity v) q (kept_has (λ id. queued site capacity id (v.job id)) (jobs_in v) q.id q k.0 k.1),
  )
