-- Live pairs of unions, of one operation more, and of sets with the same members.
use Rattle.std.specs.List.{list_any}
use Rattle.std.proofs.Common.{◌≡◌, ℕ, List, [], ◌∷◌, ◌++◌, Bool, true, false, not, ◌&&◌, ◌||◌, refl, sym, subst, ◌∙◌, arith}
use Rattle.std.proofs.lemmas.Bool.{and_parts}
use Rattle.std.proofs.lemmas.List.Folds.{list_any-append}
use Rattle.fed_stamp.specs.Stamp.{StampValue, same_stamp}
use Rattle.fed_stamp.specs.Version.{covers}
use Rattle.fed_lattice.specs.Sets.{Has, IsSameSet}
use Rattle.fed_lattice.specs.SetLaws.{found, any_from, any_same}
use Rattle.fed_lattice.specs.History.{History, IsFresh, Agree}
use Rattle.fed_lattice.specs.ExactLaws.{same_stamp_is, same_stamp_itself}
use Rattle.fed_model.specs.Pairs.{adds_pair, removes_pair, is_live}
use Rattle.fed_theory.specs.JobHistory.{RemovesAdded}
use Rattle.fed_theory.specs.JobSteps.{add_live}
use Rattle.fed_lattice.specs.Stays.{stays}

-- the two sides in bits: added, removed and covered, here and there
join_bits : (a r c b s d : Bool) → (b ≡ true → c ≡ true → a ≡ true) → (a ≡ true → d ≡ true → b ≡ true) → (r ≡ true → c ≡ true) → (s ≡ true → d ≡ true)
    → ((a || b) && not (r || s)) ≡ stays (a && not r) c (b && not s) d
join_bits a r c b s d p q k l = grind arith

-- added and removed before, and by the new operation: what was removed is not added just now
add_bits : (a r b s : Bool) → (r ≡ true → b ≡ true → ⊥) → ((a || (b || false)) && not (r || (s || false))) ≡ add_live (a && not r) b s
add_bits a r b s apart = grind arith

module _ {C E : Type 0} (adds : C → E → Bool) (removes : C → E → StampValue → Bool) (element : E) (tag : StampValue) where
  added : History C → Bool
  added h = list_any (adds_pair adds removes element tag) h

  removed : History C → Bool
  removed h = list_any (removes_pair adds removes element tag) h

  -- the operation with the tag's stamp that adds the element
  adder : (h : History C) → added h ≡ true → (c : C) × Has h (tag, c) × (adds c element ≡ true)
  unfolding added
  adder h e =
      let f = found (adds_pair adds removes element tag) h e in
      let p = and_parts (same_stamp f.0.0 tag) (adds f.0.1 element) f.2 in
      (f.0.1, subst (λ (s : StampValue). Has h (s, f.0.1)) (same_stamp_is f.0.0 tag p.0) f.1, p.1)

  from_adder : (h : History C) (c : C) → Has h (tag, c) → adds c element ≡ true → added h ≡ true
  unfolding added
  from_adder h c k e = any_from (adds_pair adds removes element tag) h (tag, c) k (rw (same_stamp_itself tag) e)

  -- a pair that is removed was added
  removed_added : (h : History C) → RemovesAdded adds removes h → removed h ≡ true → (c : C) × Has h (tag, c) × (adds c element ≡ true)
  unfolding removed
  removed_added h rests e =
      let f = found (removes_pair adds removes element tag) h e in rests f.0 element tag f.1 f.2

  pub live_union : (v w : List ℕ) (g h : History C) → Agree v g w h → RemovesAdded adds removes g → RemovesAdded adds removes h
      → is_live adds removes (g ++ h) element tag ≡ stays (is_live adds removes g element tag) (covers v tag) (is_live adds removes h element tag) (covers w tag)
  unfolding added removed
  live_union v w g h agree rests_g rests_h =
      let a = list_any-append (adds_pair adds removes element tag) g h in
      let r = list_any-append (removes_pair adds removes element tag) g h in
      (λ i. a i && not (r i))
      ∙ join_bits (added g) (removed g) (covers v tag) (added h) (removed h) (covers w tag)
      (λ e c. let x = adder h e in from_adder g x.0 (agree.right_shares (tag, x.0) x.1 c) x.2)
      (λ e c. let x = adder g e in from_adder h x.0 (agree.left_shares (tag, x.0) x.1 c) x.2)
      (λ e. let x = removed_added g rests_g e in agree.left_covered (tag, x.0) x.1)
      (λ e. let x = removed_added h rests_h e in agree.right_covered (tag, x.0) x.1)

  pub live_push : (h : History C) (e : StampValue × C) → IsFresh e.0 h → RemovesAdded adds removes h
      → is_live adds removes (h ++ e ∷ []) element tag ≡ add_live (is_live adds removes h element tag) (adds_pair adds removes element tag e) (removes e.1 element tag)
  unfolding added removed
  live_push h e fresh rests =
      let a = list_any-append (adds_pair adds removes element tag) h (e ∷ []) in
      let r = list_any-append (removes_pair adds removes element tag) h (e ∷ []) in
      (λ i. a i && not (r i))
      ∙ add_bits (added h) (removed h) (adds_pair adds removes element tag e) (removes e.1 element tag)
      (λ gone new.
      let x = removed_added h rests gone in
      fresh (tag, x.0) x.1 (sym (same_stamp_is e.0 tag (and_parts (same_stamp e.0 tag) (adds e.1 element) new).0)))

  pub live_same : (g h : History C) → IsSameSet g h → is_live adds removes g element tag ≡ is_live adds removes h element tag
  live_same g h same =
      let a = any_same (adds_pair adds removes element tag) (adds_pair adds removes element tag) g h (λ x. refl) same in
      let r = any_same (removes_pair adds removes element tag) (removes_pair adds removes element tag) g h (λ x. refl) same in
      (λ i. a i && not (r i))
