-- What a binary search finds in a sorted list, and a queue without some of its jobs.
use Rattle.std.specs.List.{HoldsAt, list_any}
use Rattle.std.specs.List.Sorted.{IsBinarySearchResult, IsPartitionPoint, IsSearchInRange, IsSorted, IsStrictlySortedBy}
use Rattle.std.specs.Ordering.{eq_by_cmp, is_eq, ordering_reverse}
use Rattle.std.specs.Cmp.{IsTotalOrder}
use Rattle.std.proofs.Common.{◌≡◌, ◌↔◌, ℕ, zero, suc, ◌<◌, ◌≤◌, List, [], ◌∷◌, Bool, true, false, not, ◌||◌, filter, length, get_or, Ordering, Less, Equal, Greater, Result, Ok, Err, is_ok, refl, sym, ap, ap₂, subst, ◌∙◌, inl, inr, arith}
use Rattle.std.proofs.lemmas.Cmp.{tied_itself}
use Rattle.std.proofs.lemmas.List.Folds.{list_any_at}
use Rattle.std.proofs.lemmas.List.Kept.{IsStrictlySortedBy-filter}
use Rattle.std.proofs.lemmas.List.Sorted.{searchable_from_sorted}
use Rattle.std.proofs.lemmas.Map.Views.{tells_apart}
use Rattle.fed_stamp.specs.Stamp.{StampValue, same_stamp}
use Rattle.fed_lattice.proofs.FilterLaws.{Has-filter, filter-Has}
use Rattle.fed_lattice.specs.ExactLaws.{exact_stamp, same_stamp_is, same_stamp_itself, tells_stamps}
use Rattle.fed_lattice.specs.Latest.{stamp_cmp}
use Rattle.fed_lattice.specs.LatestLaws.{stamp_total}
use Rattle.fed_lattice.specs.SetLaws.{any_from, found}
use Rattle.fed_lattice.specs.Sets.{Has}
use Rattle.fed_model.specs.View.{View}
use Rattle.fed_easy.specs.declared.queues.QueuedJob.{QueuedJob}
use Rattle.fed_easy.specs.Queue.{is_among, queue_in, queue_without}
use Rattle.fed_easy.specs.QueueOrder.{queue_cmp}
use Rattle.fed_easy.proofs.QueueMembers.{queue_ordered}

module _ {K : Type 0} (R : K → K → Ordering) (o : IsTotalOrder R) where
  any_at : (xs : List K) (i : ℕ) (k : K) → i < length xs → HoldsAt (λ y. R y k ≡ Equal) xs i → list_any (eq_by_cmp R k) xs ≡ true
  any_at xs i k l h = list_any_at (eq_by_cmp R k) xs i k l (ap is_eq (o.antisymm k (get_or xs i k) ∙ ap ordering_reverse (h k)))

  any_gap : (xs : List K) (i : ℕ) (k : K) → i ≤ length xs → IsPartitionPoint (λ y. R y k ≡ Less) (λ y. R y k ≡ Greater) xs i → list_any (eq_by_cmp R k) xs ≡ false
  any_gap [] i k l p = refl
  any_gap (x ∷ xs) zero k l p =
      ap₂ (λ a b. a || b) (ap is_eq (o.antisymm k x ∙ ap ordering_reverse (p.1 0 x (omega arith) (omega arith))))
      (any_gap xs zero k (omega arith) (λ j d a b. absurd (omega arith), λ j d a b. p.1 (suc j) d (omega arith) (omega arith)))
  any_gap (x ∷ xs) (suc i) k l p =
      ap₂ (λ a b. a || b) (ap is_eq (o.antisymm k x ∙ ap ordering_reverse (p.0 0 x (omega arith) (omega arith))))
      (any_gap xs i k (omega arith) (λ j d a b. p.0 (suc j) d (omega arith) (omega arith), λ j d a b. p.1 (suc j) d (omega arith) (omega arith)))

  -- a search of a sorted list finds a key exactly where it is there
  pub any_searched : (xs : List K) (k : K) → IsSorted R xs → (r : Result ℕ ℕ) → IsSearchInRange r (length xs) → IsBinarySearchResult (λ y. R y k) xs r → is_ok r ≡ list_any (eq_by_cmp R k) xs
  any_searched xs k s (Ok i) b p = sym (any_at xs i k b p)
  any_searched xs k s (Err i) b p = sym (any_gap xs i k b (p (searchable_from_sorted o (λ (x : K). x) xs k (λ i d l h. s i d l h))))

-- ---- identifiers
same_tests : (a b : Bool) → (a ≡ true → b ≡ true) → (b ≡ true → a ≡ true) → a ≡ b
same_tests true b f g = sym (f refl)
same_tests false true f g = g refl
same_tests false false f g = refl

by_order : (s t : StampValue) → eq_by_cmp stamp_cmp s t ≡ same_stamp s t
by_order s t =
    same_tests (eq_by_cmp stamp_cmp s t) (same_stamp s t) (λ e. (tells_stamps s t).1 (tells_apart exact_stamp s t e))
    (λ e. subst (λ (u : StampValue). eq_by_cmp stamp_cmp s u ≡ true) (same_stamp_is s t e) (ap is_eq (tied_itself stamp_total s)))

any_by_order : (s : StampValue) (ts : List StampValue) → list_any (eq_by_cmp stamp_cmp s) ts ≡ list_any (same_stamp s) ts
any_by_order s [] = refl
any_by_order s (t ∷ ts) = ap₂ (λ a b. a || b) (by_order s t) (any_by_order s ts)

-- a binary search of sorted identifiers tells whether one is there
pub one_found : (ts : List StampValue) (s : StampValue) → IsSorted stamp_cmp ts → (r : Result ℕ ℕ) → IsSearchInRange r (length ts) → IsBinarySearchResult (λ t. stamp_cmp t s) ts r → is_ok r ≡ list_any (same_stamp s) ts
one_found ts s sorted r within says = any_searched stamp_cmp stamp_total ts s sorted r within says ∙ any_by_order s ts

-- a test that all pass keeps all
all_kept : {A : Type 0} (p : A → Bool) (xs : List A) → ((x : A) → Has xs x → p x ≡ true) → filter p xs ≡ xs
all_kept p [] h = refl
all_kept p (x ∷ xs) h =
    let first = h x (inl refl) in
    let rest = all_kept p xs (λ y k. h y (inr k)) in
    rw (first, rest) refl

-- ---- the members of a queue without some jobs
test_from : (jobs : List StampValue) (s : StampValue) → Has jobs s → list_any (same_stamp s) jobs ≡ true
test_from jobs s h = any_from (same_stamp s) jobs s h (same_stamp_itself s)

from_test : (jobs : List StampValue) (s : StampValue) → list_any (same_stamp s) jobs ≡ true → Has jobs s
from_test jobs s e = let f = found (same_stamp s) jobs e in subst (Has jobs) (sym (same_stamp_is s f.0 f.2)) f.1

not_among : (jobs : List StampValue) (j : QueuedJob) (b : Bool) → is_among jobs j ≡ b → ¬ Has jobs j.id → b ≡ false
not_among jobs j true e none = absurd (none (from_test jobs j.id e))
not_among jobs j false e none = refl

module _ (v : View) (site capacity : ℕ) (jobs : List StampValue) where
  abbrev others : QueuedJob → Bool
  others j = not (is_among jobs j)

  pub without_ordered : IsStrictlySortedBy queue_cmp (queue_without jobs site capacity v)
  without_ordered = IsStrictlySortedBy-filter queue_cmp others (queue_in site capacity v) (queue_ordered v site capacity)

  pub without_members : (j : QueuedJob) → Has (queue_without jobs site capacity v) j ↔ (Has (queue_in site capacity v) j × (¬ Has jobs j.id))
  without_members j = (
    λ h. let m = Has-filter others (queue_in site capacity v) j h in (m.0, λ named. let t : is_among jobs j ≡ true = test_from jobs j.id named in let f : not (is_among jobs j) ≡ true = m.1 in cc),
    λ k. filter-Has others (queue_in site capacity v) j k.0 (ap not (not_among jobs j (is_among jobs j) refl k.1)),
  )

  pub without_none : ((j : QueuedJob) → Has (queue_in site capacity v) j → ¬ Has jobs j.id) → queue_without jobs site capacity v ≡ queue_in site capacity v
  without_none none = all_kept others (queue_in site capacity v) (λ j h. ap not (not_among jobs j (is_among jobs j) refl (none j h)))
