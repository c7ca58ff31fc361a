-- The live pairs of a record that stands for operations are those of the operations.
use Rattle.std.specs.Cmp.{IsTotalOrder, both_ways}
use Rattle.std.specs.List.{list_any}
use Rattle.std.proofs.Common.{◌≡◌, ◌↔◌, List, Bool, true, false, not, Some, Ordering, refl, sym, ap, subst, ◌∙◌, inl, inr}
use Rattle.std.proofs.lemmas.Bool.{and_parts, cases_Bool, and_from}
use Rattle.std.proofs.lemmas.Map.Lookups.{CmpEqualImpliesEq}
use Rattle.fed_stamp.specs.Stamp.{StampValue, same_stamp}
use Rattle.fed_lattice.specs.ExactLaws.{same_stamp_is, same_stamp_itself}
use Rattle.fed_lattice.specs.Sets.{Has}
use Rattle.fed_lattice.specs.SetLaws.{found, any_from}
use Rattle.fed_lattice.specs.History.{History}
use Rattle.fed_lattice.specs.Part.{part}
use Rattle.fed_lattice.specs.PartLaws.{source, Has-part}
use Rattle.fed_tags.specs.Tags.{pair_cmp, has, IsAdded, IsRemoved, tags_stand_for}
use Rattle.fed_tags.specs.TagLaws.{pair_total, exact_pair, has_member, member}
use Rattle.fed_record.specs.declared.operations.Operation.{Operation}
use Rattle.fed_model.specs.Body.{Body}
use Rattle.fed_record.specs.Changes.{always}
use Rattle.fed_record.specs.Operation.{body_of, bodies}
use Rattle.fed_model.specs.Pairs.{adds_pair, removes_pair, is_live}
use Rattle.fed_record.proofs.BodyLaws.{bodies-Has, Has-bodies}

not_true : (b : Bool) → not b ≡ true → b ≡ true → ⊥
not_true true e f = cc
not_true false e f = cc

-- the change of an operation adds the elements that its body adds, and removes the pairs that its body removes
module _ {E : Type 0} (cmp : E → E → Ordering) (o : IsTotalOrder cmp) (exact : CmpEqualImpliesEq cmp) (adds : Body → E → Bool) (removes : Body → E → StampValue → Bool)
    (change : Operation → List E × List (E × StampValue))
    (added_is : (c : Operation) (e : E) → Has (change c).0 e ↔ (adds (body_of c) e ≡ true))
    (removed_is : (c : Operation) (e : E) (tag : StampValue) → Has (change c).1 (e, tag) ↔ (removes (body_of c) e tag ≡ true))
    (h : History Operation) (e : E) (tag : StampValue) where
  change_of : (c : Operation) (d : List E × List (E × StampValue)) → always change c ≡ Some d → change c ≡ d
  change_of c d p = cc

  added_found : IsAdded (part (always change) h) (e, tag) → list_any (adds_pair adds removes e tag) (bodies h) ≡ true
  added_found a =
      let s = source (always change) h (tag, a.0) a.1 in
      let m : Has (change s.0).0 e = subst (λ (d : List E × List (E × StampValue)). Has d.0 e) (sym (change_of s.0 a.0 s.2)) a.2 in
      any_from (adds_pair adds removes e tag) (bodies h) (tag, body_of s.0) (bodies-Has h (tag, s.0) s.1) (and_from _ _ (same_stamp_itself tag) ((added_is s.0 e).0 m))

  found_added : list_any (adds_pair adds removes e tag) (bodies h) ≡ true → IsAdded (part (always change) h) (e, tag)
  found_added t =
      let f = found (adds_pair adds removes e tag) (bodies h) t in
      let p = and_parts (same_stamp f.0.0 tag) (adds f.0.1 e) f.2 in
      let b = Has-bodies h f.0 f.1 in
      let k : Has h (tag, b.0) = subst (λ (s : StampValue). Has h (s, b.0)) (same_stamp_is f.0.0 tag p.0) b.1 in
      (change b.0, Has-part (always change) h tag b.0 (change b.0) k refl, (added_is b.0 e).1 (ap (λ x. adds x e) b.2 ∙ p.1))

  removed_found : IsRemoved (part (always change) h) (e, tag) → list_any (removes_pair adds removes e tag) (bodies h) ≡ true
  removed_found r =
      let s = source (always change) h r.0 r.1 in
      let m : Has (change s.0).1 (e, tag) = subst (λ (d : List E × List (E × StampValue)). Has d.1 (e, tag)) (sym (change_of s.0 r.0.1 s.2)) r.2 in
      any_from (removes_pair adds removes e tag) (bodies h) (r.0.0, body_of s.0) (bodies-Has h (r.0.0, s.0) s.1) ((removed_is s.0 e tag).0 m)

  found_removed : list_any (removes_pair adds removes e tag) (bodies h) ≡ true → IsRemoved (part (always change) h) (e, tag)
  found_removed t =
      let f = found (removes_pair adds removes e tag) (bodies h) t in
      let b = Has-bodies h f.0 f.1 in
      ((f.0.0, change b.0), Has-part (always change) h f.0.0 b.0 (change b.0) b.1 refl, (removed_is b.0 e tag).1 (ap (λ x. removes x e tag) b.2 ∙ f.2))

  pub live_is : (xs : List (E × StampValue)) → tags_stand_for xs (part (always change) h) → has (pair_cmp cmp) xs (e, tag) ≡ is_live adds removes (bodies h) e tag
  live_is xs reads =
      let R = pair_cmp cmp in
      let order = pair_total cmp o in
      let tells = exact_pair cmp exact in
      both_ways _ _
      (λ t.
      let l = (reads (e, tag)).0 (member R order tells (e, tag) xs t) in
      elim (cases_Bool (list_any (removes_pair adds removes e tag) (bodies h))) [
        | inl r ↦ absurd (l.1 (found_removed r))
        | inr r ↦ and_from _ _ (added_found l.0) (ap not r)
      ])
      (λ t.
      let p = and_parts (list_any (adds_pair adds removes e tag) (bodies h)) _ t in
      has_member R order tells (e, tag) xs ((reads (e, tag)).1 (found_added p.0, λ r. not_true _ p.1 (removed_found r))))
