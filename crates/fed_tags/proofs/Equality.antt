-- That sets are equal by their tests exactly where they have the same pairs.
use Rattle.std.specs.Bool.{Decides}
use Rattle.std.specs.BTreeMap.{is_at}
use Rattle.std.specs.Cmp.{IsTotalOrder}
use Rattle.std.specs.Cmp.Lexicographic.{pointwise}
use Rattle.std.specs.Map.{lookup}
use Rattle.std.specs.Ordering.{is_eq, eq_by_cmp}
use Rattle.std.proofs.Common.{◌≡◌, List, [], Bool, true, false, ◌&&◌, Option, Some, None, IfSome, unwrap_or, Ordering, refl, sym, ap, ap₂, ◌∙◌}
use Rattle.std.proofs.lemmas.Cmp.{tied_itself}
use Rattle.std.proofs.lemmas.Map.Lookups.{CmpEqualImpliesEq}
use Rattle.std.proofs.lemmas.Map.Views.{tells_apart, IfSome-lookup_from_All}
use Rattle.std.proofs.lemmas.Slice.Eq.{slice_eq-Decides}
use Rattle.std.proofs.lemmas.Bool.Decides.{same_from_decides}
use Rattle.fed_stamp.specs.Stamp.{StampValue, same_stamp}
use Rattle.fed_stamp.proofs.StampLaws.{same_stamp-Decides}
use Rattle.fed_lattice.specs.Table.{IsTable}
use Rattle.fed_lattice.specs.TableEntryLaws.{same_tables}
use Rattle.fed_tags.specs.Tags.{pair_cmp, tags_of}
use Rattle.fed_tags.specs.TagLaws.{pair_total, exact_pair}
use Rattle.fed_tags.specs.Groups.{pairs, IsGroup}
use Rattle.fed_tags.proofs.GroupLaws.{tags_pairs}

both_decide : (a b : Bool) {P Q R : Type 0} → Decides a P → Decides b Q → (P → Q → R) → (R → P × Q) → Decides (a && b) R
both_decide true true p q f g = (λ _. f (p.0 refl) (q.0 refl), λ _. refl)
both_decide true false p q f g = (λ e. cc, λ r. q.1 (g r).1)
both_decide false b p q f g = (λ e. cc, λ r. p.1 (g r).0)

pub stamps_decide : (ss us : List StampValue) → Decides (pointwise same_stamp ss us) (ss ≡ us)
stamps_decide ss us = slice_eq-Decides same_stamp-Decides ss us (pointwise same_stamp ss us) refl

-- entries are equal where their keys and values are
pub entries_decide : {K X : Type 0} {E : K → K → Bool} {F : X → X → Bool} → ((a b : K) → Decides (E a b) (a ≡ b)) → ((a b : X) → Decides (F a b) (a ≡ b)) → (es fs : List (K × X)) (r : Bool) → r ≡ pointwise (λ (p q : K × X). E p.0 q.0 && F p.1 q.1) es fs → Decides r (es ≡ fs)
entries_decide {K} {X} {E} {F} keys values es fs r e =
    slice_eq-Decides (λ (p q : K × X). both_decide (E p.0 q.0) (F p.1 q.1) (keys p.0 q.0) (values p.1 q.1)
    (λ a b. ap₂ (λ (x : K) (y : X). (x, y)) a b)
    (λ h. (ap (λ (x : K × X). x.0) h, ap (λ (x : K × X). x.1) h))) es fs r e

module _ {K : Type 0} (R : K → K → Ordering) (o : IsTotalOrder R) (exact : CmpEqualImpliesEq R) where
  order_decides : (a b : K) → Decides (eq_by_cmp R a b) (a ≡ b)
  order_decides a b = (tells_apart exact a b, λ e. ap (λ x. is_eq (R a x)) (sym e) ∙ ap is_eq (tied_itself o a))

  -- a test that answers as the order does
  pub test_decides : (E : K → K → Bool) → ((a b : K) → E a b ≡ is_eq (R a b)) → (a b : K) → Decides (E a b) (a ≡ b)
  test_decides E ties a b = (λ e. (order_decides a b).0 (sym (ties a b) ∙ e), λ e. ties a b ∙ (order_decides a b).1 e)

module _ {T : Type 0} (cmp : T → T → Ordering) (o : IsTotalOrder cmp) (exact : CmpEqualImpliesEq cmp) where
  same_groups : (a b : Option (List StampValue)) → IfSome a IsGroup → IfSome b IsGroup → unwrap_or a [] ≡ unwrap_or b [] → a ≡ b
  same_groups None None i j e = refl
  same_groups None (Some ss) i j e = absurd (j.1 (sym e))
  same_groups (Some ss) None i j e = absurd (i.1 e)
  same_groups (Some ss) (Some us) i j e = ap Some e

  -- the pairs tell what the groups are
  groups_from_pairs : (es fs : List (T × List StampValue)) → IsTable cmp IsGroup es → IsTable cmp IsGroup fs → pairs es ≡ pairs fs → es ≡ fs
  groups_from_pairs es fs g h e = same_tables cmp o exact es fs g.0 h.0 (λ t.
      same_groups (lookup (is_at (cmp t)) es) (lookup (is_at (cmp t)) fs) (IfSome-lookup_from_All IsGroup (is_at (cmp t)) es g.1) (IfSome-lookup_from_All IsGroup (is_at (cmp t)) fs h.1)
      (sym (tags_pairs cmp o es t g.0) ∙ ap (λ xs. tags_of cmp xs t) e ∙ tags_pairs cmp o fs t h.0))

  pub sets_decide : (es fs : List (T × List StampValue)) (xs ys : List (T × StampValue)) (r : Bool) → IsTable cmp IsGroup es → IsTable cmp IsGroup fs → pairs es ≡ xs → pairs fs ≡ ys → Decides r (es ≡ fs) → Decides r (xs ≡ ys)
  sets_decide es fs xs ys r g h v w d = (
    λ e. sym v ∙ ap (λ l. pairs l) (d.0 e) ∙ w,
    λ e. d.1 (groups_from_pairs es fs g h (v ∙ e ∙ sym w)),
  )

  pub by_pairs : (xs ys : List (T × StampValue)) (r : Bool) → Decides r (xs ≡ ys) → r ≡ pointwise (eq_by_cmp (pair_cmp cmp)) xs ys
  by_pairs xs ys r d = same_from_decides r (pointwise (eq_by_cmp (pair_cmp cmp)) xs ys) d
      (slice_eq-Decides (order_decides (pair_cmp cmp) (pair_total cmp o) (exact_pair cmp exact)) xs ys (pointwise (eq_by_cmp (pair_cmp cmp)) xs ys) refl)
