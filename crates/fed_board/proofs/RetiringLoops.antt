-- How loops gather the identifiers that are to go.
use Rattle.std.specs.List.{AllByRecursion}
use Rattle.std.specs.List.Sorted.{IsStrictlySortedBy}
use Rattle.std.specs.Cmp.{nat_cmp_is}
use Rattle.std.specs.Ordering.{nat_cmp, ordering_then, ordering_reverse}
use Rattle.std.specs.Prelude.{◌&&◌, ◌==◌}
use Rattle.std.proofs.Common.{◌≡◌, ℕ, ◌≤◌, ◌<◌, List, [], ◌∷◌, ◌++◌, Bool, true, false, cond, filter, Less, Greater, refl, sym, ap, subst, ◌∙◌, inl, inr, arith}
use Rattle.std.proofs.lemmas.Bool.{and_from, and_parts, cases_Bool, cases_lt, eq-eqb, ne_eqb}
use Rattle.std.proofs.lemmas.List.{append_assoc}
use Rattle.std.proofs.Math.Bool.{and-false}
use Rattle.fed_stamp.specs.Stamp.{StampValue}
use Rattle.fed_lattice.specs.Latest.{stamp_cmp}
use Rattle.fed_lattice.specs.LatestLaws.{stamp_total}
use Rattle.fed_ranges.specs.declared.ranges.Range.{Range}
use Rattle.fed_ranges.specs.Ranges.{is_in}
use Rattle.fed_ranges.specs.RangeLaws.{in_from, in_high, in_low}
use Rattle.fed_board.specs.Retiring.{is_of_range}

module _ {A : Type 0} (p : A → Bool) where
  -- one more that passes
  pub taken_more : (ids new it rest total : List A) (k : A) → ids ++ filter p it ≡ total → it ≡ k ∷ rest → p k ≡ true → new ≡ ids ++ k ∷ [] → new ++ filter p rest ≡ total
  taken_more ids new it rest total k whole first passes pushed =
      ap (λ l. l ++ filter p rest) pushed ∙ append_assoc ids (k ∷ []) (filter p rest)
      ∙ ap (λ l. ids ++ l) (sym (ap (filter p) first ∙ ap (λ b. cond b (k ∷ filter p rest) (filter p rest)) passes))
      ∙ whole

  -- one that does not
  pub taken_skip : (ids it rest total : List A) (k : A) → ids ++ filter p it ≡ total → it ≡ k ∷ rest → p k ≡ false → ids ++ filter p rest ≡ total
  taken_skip ids it rest total k whole first fails =
      ap (λ l. ids ++ l) (sym (ap (filter p) first ∙ ap (λ b. cond b (k ∷ filter p rest) (filter p rest)) fails)) ∙ whole

pub none_pass : {A : Type 0} (xs : List A) → filter (λ _. false) xs ≡ []
none_pass [] = refl
none_pass (x ∷ xs) = none_pass xs

pub all_pass : {A : Type 0} (xs : List A) → filter (λ _. true) xs ≡ xs
all_pass [] = refl
all_pass (x ∷ xs) = ap (λ l. x ∷ l) (all_pass xs)

-- ---- identifiers ascend by their counters
less_counter : (s t : StampValue) → s.counter < t.counter → stamp_cmp s t ≡ Less
less_counter s t h = ap (λ o. ordering_then o (nat_cmp s.site t.site)) (sym (nat_cmp_is s.counter t.counter Less h))

module _ (site : ℕ) (range : Range) where
  beyond : (id : StampValue) → range.last < id.counter → is_of_range site range id ≡ false
  beyond id far = go (is_in range id.counter) refl
    where
      go : (b : Bool) → is_in range id.counter ≡ b → ((site == id.site) && b) ≡ false
      go true e = let h = in_high range id.counter e in absurd (omega arith)
      go false e = and-false (site == id.site)

  pub of_range : (id : StampValue) → site ≡ id.site → range.first ≤ id.counter → id.counter ≤ range.last → is_of_range site range id ≡ true
  of_range id same low high = and_from (site == id.site) (is_in range id.counter) (eq-eqb site id.site same) (in_from range id.counter low high)

  pub before : (id : StampValue) → id.counter < range.first → is_of_range site range id ≡ false
  before id less = elim (cases_Bool (is_of_range site range id)) [
    | inr f ↦ f
    | inl t ↦ (let low = in_low range id.counter (and_parts (site == id.site) (is_in range id.counter) t).1 in absurd (omega arith))
  ]

  pub elsewhere : (id : StampValue) → (site ≡ id.site → ⊥) → is_of_range site range id ≡ false
  elsewhere id other = ap (λ b. b && is_in range id.counter) (ne_eqb site id.site other)

  none_of : (k : StampValue) (ids : List StampValue) → range.last < k.counter → AllByRecursion (λ y. stamp_cmp k y ≡ Less) ids → filter (is_of_range site range) ids ≡ []
  none_of k [] far a = refl
  none_of k (y ∷ ids) far a =
      ap (λ b. cond b (y ∷ filter (is_of_range site range) ids) (filter (is_of_range site range) ids)) (beyond y (later y a.0)) ∙ none_of k ids far a.1
    where
      later : (y : StampValue) → stamp_cmp k y ≡ Less → range.last < y.counter
      later y less = elim (cases_lt y.counter k.counter) [
        | inl l ↦ absurd (let e : stamp_cmp y k ≡ Less = less_counter y k l in let f : stamp_cmp y k ≡ Greater = stamp_total.antisymm y k ∙ ap ordering_reverse less in let g : Less ≡ Greater = sym e ∙ f in cc)
        | inr l ↦ omega arith
      ]

  -- none is left to take beyond the range's end
  pub taken_all : (ids it rest total : List StampValue) (k : StampValue) → ids ++ filter (is_of_range site range) it ≡ total → it ≡ k ∷ rest → range.last < k.counter → IsStrictlySortedBy stamp_cmp it → ids ++ [] ≡ total
  unfolding IsStrictlySortedBy
  taken_all ids it rest total k whole first far sorted =
      let s = subst (IsStrictlySortedBy stamp_cmp) first sorted in
      let none : filter (is_of_range site range) it ≡ [] = ap (filter (is_of_range site range)) first
      ∙ ap (λ b. cond b (k ∷ filter (is_of_range site range) rest) (filter (is_of_range site range) rest)) (beyond k far) ∙ none_of k rest far s.0 in
      ap (λ l. ids ++ l) (sym none) ∙ whole

pub sorted_rest : (it rest : List StampValue) (k : StampValue) → it ≡ k ∷ rest → IsStrictlySortedBy stamp_cmp it → IsStrictlySortedBy stamp_cmp rest
unfolding IsStrictlySortedBy
sorted_rest it rest k first sorted = (subst (IsStrictlySortedBy stamp_cmp) first sorted).1
