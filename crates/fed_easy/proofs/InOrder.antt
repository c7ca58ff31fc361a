-- The queue is the waiting jobs, sorted.
use Rattle.std.specs.List.{cons_option, filter_map, AllByRecursion, IsDistinct}
use Rattle.std.specs.List.Sorted.{IsPermutation, IsSorted, IsStrictlySortedBy}
use Rattle.std.specs.Map.{keys_of}
use Rattle.std.specs.Ordering.{eq_by_cmp, is_eq}
use Rattle.std.proofs.Common.{◌≡◌, ℕ, List, [], ◌∷◌, Bool, true, false, Less, Option, Some, None, refl, sym, ap, subst, ◌∙◌, inl, inr}
use Rattle.std.proofs.lemmas.Cmp.{eq_by_cmp_equiv}
use Rattle.std.proofs.lemmas.List.Sorted.{list_any-IsPermutation, IsPermutation-sym}
use Rattle.std.proofs.lemmas.Map.Keys.{sorted_head, sorted_tail, IsDistinct-cons, IsDistinct-IsPermutation}
use Rattle.std.proofs.lemmas.Map.Views.{tells_apart}
use Rattle.fed_stamp.specs.Stamp.{StampValue}
use Rattle.fed_lattice.specs.Latest.{stamp_cmp}
use Rattle.fed_lattice.specs.LatestLaws.{stamp_total}
use Rattle.fed_lattice.specs.Sets.{Has}
use Rattle.fed_tags.specs.TagLaws.{sorted_empty}
use Rattle.fed_record.specs.JobRecord.{JobRecordValue, job_reads}
use Rattle.fed_easy.specs.declared.queues.QueuedJob.{QueuedJob}
use Rattle.fed_easy.specs.Queue.{in_order}
use Rattle.fed_easy.specs.QueueLaws.{queue_total, exact_queue}
use Rattle.fed_easy.specs.QueueOrder.{queue_cmp}
use Rattle.fed_board.proofs.FoundEntries.{all_has, key_has}
use Rattle.fed_easy.proofs.BoardEntries.{entry_waiting}
use Rattle.fed_easy.proofs.Ordered.{all_from_has, less_other, same_lists, strict_from_sort}
use Rattle.fed_easy.proofs.QueueMembers.{has_job, kept_from, order_adds, order_from, order_sorted, queued_id}

-- ---- jobs of different identifiers differ
module _ (site capacity : ℕ) where
  -- two that differ in their identifiers
  apart : (j k : QueuedJob) → stamp_cmp j.id k.id ≡ Less → (b : Bool) → is_eq (queue_cmp j k) ≡ b → b ≡ false
  apart j k less true e = absurd (less_other stamp_cmp stamp_total j.id k.id less (ap (λ (j : QueuedJob). j.id) (tells_apart exact_queue j k e)))
  apart j k less false e = refl

  later_apart : (e : StampValue × JobRecordValue) (es : List (StampValue × JobRecordValue)) (j : QueuedJob) → IsStrictlySortedBy stamp_cmp (keys_of (e ∷ es)) → entry_waiting site capacity e ≡ Some j
      → AllByRecursion (λ k. eq_by_cmp queue_cmp j k ≡ false) (filter_map (entry_waiting site capacity) es)
  later_apart e es j sorted is =
      all_from_has (λ k. eq_by_cmp queue_cmp j k ≡ false) (filter_map (entry_waiting site capacity) es) (λ k h.
      let from = kept_from (entry_waiting site capacity) es k h in
      let own : e.0 ≡ j.id = queued_id site capacity e.0 (job_reads e.1) j is in
      let other : from.0.0 ≡ k.id = queued_id site capacity from.0.0 (job_reads from.0.1) k from.2 in
      let less : stamp_cmp e.0 from.0.0 ≡ Less = all_has (λ s. stamp_cmp e.0 s ≡ Less) (keys_of es) from.0.0 (sorted_head stamp_cmp e.0 (keys_of es) sorted) (key_has es from.0 from.1) in
      apart j k (rw (own, other) at less) (is_eq (queue_cmp j k)) refl)

  one_more : (o : Option QueuedJob) (e : StampValue × JobRecordValue) (es : List (StampValue × JobRecordValue)) → entry_waiting site capacity e ≡ o → IsStrictlySortedBy stamp_cmp (keys_of (e ∷ es))
      → IsDistinct (eq_by_cmp queue_cmp) (filter_map (entry_waiting site capacity) es) → IsDistinct (eq_by_cmp queue_cmp) (cons_option o (filter_map (entry_waiting site capacity) es))
  one_more None e es is sorted rest = rest
  one_more (Some j) e es is sorted rest = IsDistinct-cons (eq_by_cmp queue_cmp) j (filter_map (entry_waiting site capacity) es) (later_apart e es j sorted is) rest

  distinct_entries : (es : List (StampValue × JobRecordValue)) → IsStrictlySortedBy stamp_cmp (keys_of es) → IsDistinct (eq_by_cmp queue_cmp) (filter_map (entry_waiting site capacity) es)
  unfolding IsDistinct
  distinct_entries [] sorted = tt
  distinct_entries (e ∷ es) sorted = one_more (entry_waiting site capacity e) e es refl sorted (distinct_entries es (sorted_tail stamp_cmp e.0 (keys_of es) sorted))

  pub distinct_jobs : (es : List (StampValue × JobRecordValue)) (js : List QueuedJob) → IsStrictlySortedBy stamp_cmp (keys_of es) → js ≡ filter_map (entry_waiting site capacity) es → IsDistinct (eq_by_cmp queue_cmp) js
  distinct_jobs es js sorted is = subst (IsDistinct (eq_by_cmp queue_cmp)) (sym is) (distinct_entries es sorted)

-- ---- sorted jobs
moved_has : (js ks : List QueuedJob) (q : QueuedJob) → IsPermutation js ks → Has js q → Has ks q
moved_has js ks q moved h = (has_job ks q).1 (sym (list_any-IsPermutation (eq_by_cmp queue_cmp q) js ks moved) ∙ (has_job js q).0 h)

pub sorted_queue : (js ks : List QueuedJob) → IsDistinct (eq_by_cmp queue_cmp) js → IsPermutation js ks → IsSorted queue_cmp ks → ks ≡ in_order [] js
sorted_queue js ks distinct moved sorted =
    let flips = (eq_by_cmp_equiv queue_total).symm in
    same_lists queue_cmp queue_total ks (in_order [] js) (strict_from_sort queue_cmp queue_total ks sorted (IsDistinct-IsPermutation (eq_by_cmp queue_cmp) flips js ks moved distinct))
    (order_sorted [] js (sorted_empty queue_cmp))
    (λ q h. elim (order_from [] js q h) [ inl none ↦ absurd none | inr there ↦ moved_has js ks q moved there ])
    (λ q h. order_adds [] js q (moved_has ks js q (IsPermutation-sym js ks moved) h))
