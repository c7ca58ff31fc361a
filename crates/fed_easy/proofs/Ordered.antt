-- Lists that are strictly sorted.
use Rattle.std.specs.Cmp.{IsTotalOrder}
use Rattle.std.specs.List.{AllByRecursion, IsDistinct}
use Rattle.std.specs.List.Sorted.{IsSorted, IsStrictlySortedBy}
use Rattle.std.specs.Ordering.{eq_by_cmp, is_eq, is_lt, ordering_reverse}
use Rattle.std.specs.Prelude.{slice_index_or}
use Rattle.std.proofs.Common.{◌≡◌, ◌+◌, List, [], ◌∷◌, false, Ordering, Less, Equal, Greater, refl, sym, subst, ◌∙◌, arith, inl, inr}
use Rattle.std.proofs.lemmas.Cmp.{tied_itself}
use Rattle.std.proofs.lemmas.Map.Keys.{apart_from_distinct, sorted_from_all_adjacent, sorted_head, sorted_tail}
use Rattle.fed_lattice.specs.Sets.{Has, Includes}
use Rattle.fed_tags.specs.TagLaws.{sorted_empty}
use Rattle.fed_board.proofs.FoundEntries.{all_has}

pub all_from_has : {A : Type 0} (P : A → Type 0) (xs : List A) → ((x : A) → Has xs x → P x) → AllByRecursion P xs
all_from_has P [] h = tt
all_from_has P (x ∷ xs) h = (h x (inl refl), all_from_has P xs (λ y k. h y (inr k)))

module _ {K : Type 0} (R : K → K → Ordering) (o : IsTotalOrder R) where
  -- what is less is another
  pub less_other : (x y : K) → R x y ≡ Less → x ≡ y → ⊥
  less_other x y less same =
      let itself : R x x ≡ Less = subst (λ z. R x z ≡ Less) (sym same) less in
      let tied = tied_itself o x in
      absurd cc

  less_once : (x y : K) → R x y ≡ Less → R y x ≡ Less → ⊥
  less_once x y less back = less_other x x (o.trans x y x less back) refl

  -- ---- two that have the same members are the same
  first_same : (x y : K) (xs ys : List K) → IsStrictlySortedBy R (x ∷ xs) → IsStrictlySortedBy R (y ∷ ys) → Has (y ∷ ys) x → Has (x ∷ xs) y → x ≡ y
  first_same x y xs ys s t (inl same) k = sym same
  first_same x y xs ys s t (inr h) (inl same) = same
  first_same x y xs ys s t (inr h) (inr k) = absurd (less_once y x (all_has (λ z. R y z ≡ Less) ys x (sorted_head R y ys t) h) (all_has (λ z. R x z ≡ Less) xs y (sorted_head R x xs s) k))

  rest_has : (x y q : K) (xs ys : List K) → IsStrictlySortedBy R (x ∷ xs) → x ≡ y → Has xs q → Has (y ∷ ys) q → Has ys q
  rest_has x y q xs ys s same h (inl here) = absurd (less_other x q (all_has (λ z. R x z ≡ Less) xs q (sorted_head R x xs s) h) (same ∙ here))
  rest_has x y q xs ys s same h (inr later) = later

  pub same_lists : (xs ys : List K) → IsStrictlySortedBy R xs → IsStrictlySortedBy R ys → Includes xs ys → Includes ys xs → xs ≡ ys
  same_lists [] [] s t i j = refl
  same_lists [] (y ∷ ys) s t i j = absurd (i y (inl refl))
  same_lists (x ∷ xs) [] s t i j = absurd (j x (inl refl))
  same_lists (x ∷ xs) (y ∷ ys) s t i j =
      let first : x ≡ y = first_same x y xs ys s t (j x (inl refl)) (i y (inl refl)) in
      let rest : xs ≡ ys = same_lists xs ys (sorted_tail R x xs s) (sorted_tail R y ys t) (λ q h. rest_has y x q ys xs t (sym first) h (i q (inr h))) (λ q h. rest_has x y q xs ys s first h (j q (inr h))) in
      cc

  -- ---- what a sort makes of elements that are distinct
  step_less : (a b : Ordering) → a ≡ ordering_reverse b → is_lt b ≡ false → is_eq a ≡ false → a ≡ Less
  step_less Less b flip not_less apart = refl
  step_less Equal b flip not_less apart = absurd cc
  step_less Greater Less flip not_less apart = absurd cc
  step_less Greater Equal flip not_less apart = absurd cc
  step_less Greater Greater flip not_less apart = absurd cc

  pub strict_from_sort : (xs : List K) → IsSorted R xs → IsDistinct (eq_by_cmp R) xs → IsStrictlySortedBy R xs
  strict_from_sort [] up apart = sorted_empty R
  strict_from_sort (x ∷ xs) up apart =
      sorted_from_all_adjacent o (x ∷ xs) x (λ k lt.
      let a : K = slice_index_or (x ∷ xs) k x in
      let b : K = slice_index_or (x ∷ xs) (k + 1) x in
      step_less (R a b) (R b a) (o.antisymm a b) (up k x (omega arith) lt) (apart_from_distinct (eq_by_cmp R) (x ∷ xs) k (k + 1) x apart (omega arith) lt))
