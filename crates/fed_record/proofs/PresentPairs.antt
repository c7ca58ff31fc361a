-- An element of a record is present exactly where the record keeps a pair of it.
use Rattle.std.specs.Cmp.{IsTotalOrder, both_ways}
use Rattle.std.proofs.Common.{◌≡◌, ◌↔◌, ℕ, ◌≤◌, List, [], ◌∷◌, Bool, true, false, not, ◌||◌, Ordering, refl, sym, ap, ◌∙◌, inl, inr}
use Rattle.std.proofs.lemmas.Bool.{leb-true, cases_Bool, or_left, or_right}
use Rattle.std.proofs.lemmas.Map.Lookups.{CmpEqualImpliesEq}
use Rattle.fed_stamp.specs.Stamp.{StampValue}
use Rattle.fed_stamp.specs.Version.{counter_of}
use Rattle.fed_tags.specs.Tags.{pair_cmp, has, IsElement}
use Rattle.fed_tags.specs.TagLaws.{pair_total, exact_pair, has_member, member}
use Rattle.fed_model.specs.declared.holds.HoldKind.{HoldKind}
use Rattle.fed_model.specs.declared.holds.HoldKind.TheVariants.{User, Operator, System}
use Rattle.fed_model.specs.Hold.{kind_cmp}
use Rattle.fed_model.specs.HoldLaws.{kind_total, exact_kind}
use Rattle.fed_model.specs.Letter.{any_covered}
use Rattle.fed_record.specs.Record.{AreCovered}
use Rattle.fed_theory.proofs.PresenceLaws.{any_covered_from, any_covered_found}

module _ {E : Type 0} (cmp : E → E → Ordering) (o : IsTotalOrder cmp) (exact : CmpEqualImpliesEq cmp) where
  pub present_is : (v : List ℕ) (xs : List (E × StampValue)) → AreCovered v xs → (e : E) → (any_covered v (λ tag. has (pair_cmp cmp) xs (e, tag)) ≡ true) ↔ IsElement xs e
  present_is v xs covered e = (
    λ t. let f = any_covered_found v (λ tag. has (pair_cmp cmp) xs (e, tag)) t in (f.0, member (pair_cmp cmp) (pair_total cmp o) (exact_pair cmp exact) (e, f.0) xs f.1),
    λ p.
        let c = covered (e, p.0) p.1 in
        let below : p.0.counter ≤ counter_of v p.0.site = leb-true p.0.counter (counter_of v p.0.site) c.1 in
        any_covered_from v (λ tag. has (pair_cmp cmp) xs (e, tag)) p.0 c.0 below (has_member (pair_cmp cmp) (pair_total cmp o) (exact_pair cmp exact) (e, p.0) xs p.1),
  )

  -- what tells whether there is a pair tells whether the element is present
  pub present_answer : (b : Bool) (v : List ℕ) (xs : List (E × StampValue)) → AreCovered v xs → (e : E) → (b ≡ true) ↔ IsElement xs e → b ≡ any_covered v (λ tag. has (pair_cmp cmp) xs (e, tag))
  present_answer b v xs covered e tells =
      let p = present_is v xs covered e in
      both_ways b _ (λ t. p.1 (tells.0 t)) (λ t. tells.1 (p.0 t))

-- ---- holds
abbrev present : List ℕ → List (HoldKind × StampValue) → HoldKind → Bool
present v xs kind = any_covered v (λ tag. has (pair_cmp kind_cmp) xs (kind, tag))

none_present : (v : List ℕ) (kind : HoldKind) → present v [] kind ≡ false
none_present v kind = elim (cases_Bool (present v [] kind)) [
  | inl t ↦ absurd ((present_is kind_cmp kind_total exact_kind v [] (λ p h. absurd h) kind).0 t).1
  | inr f ↦ f
]

some_present : (v : List ℕ) (xs : List (HoldKind × StampValue)) (kind : HoldKind) → present v xs kind ≡ true → (present v xs User || (present v xs Operator || present v xs System)) ≡ true
some_present v xs User e = or_left (present v xs User) (present v xs Operator || present v xs System) e
some_present v xs Operator e = or_right (present v xs User) (present v xs Operator || present v xs System) (or_left (present v xs Operator) (present v xs System) e)
some_present v xs System e = or_right (present v xs User) (present v xs Operator || present v xs System) (or_right (present v xs Operator) (present v xs System) e)

-- some hold is present exactly where there is a pair
pub held_answer : (b : Bool) (v : List ℕ) (xs : List (HoldKind × StampValue)) → AreCovered v xs → (b ≡ true) ↔ (xs ≡ []) → not b ≡ (present v xs User || (present v xs Operator || present v xs System))
held_answer b v [] covered empty =
    ap not (empty.1 refl)
    ∙ sym (λ i. none_present v User i || (none_present v Operator i || none_present v System i))
held_answer true v (p ∷ xs) covered empty = absurd (let e : (p ∷ xs) ≡ [] = empty.0 refl in cc)
held_answer false v (p ∷ xs) covered empty =
    sym (some_present v (p ∷ xs) p.0 ((present_is kind_cmp kind_total exact_kind v (p ∷ xs) covered p.0).1 (p.1, inl refl)))
