-- Pairs whose tags a version covers, after a change and in a join.
use Rattle.std.specs.Cmp.{IsTotalOrder}
use Rattle.std.proofs.Common.{◌≡◌, ◌⊎◌, ℕ, ◌+◌, ◌≤◌, ◌<◌, max, List, [], ◌∷◌, ◌++◌, length, take, get_or, Bool, true, false, not, ◌&&◌, ◌||◌, Ordering, refl, sym, ap, subst, ◌∙◌, inl, inr, arith}
use Rattle.std.proofs.lemmas.Bool.{cases_Bool, leb-true, le-leb}
use Rattle.std.proofs.lemmas.Map.Lookups.{CmpEqualImpliesEq}
use Rattle.std.proofs.lemmas.List.{take_more}
use Rattle.fed_stamp.specs.Stamp.{StampValue}
use Rattle.fed_stamp.specs.Version.{covers, counter_of, joined, raised}
use Rattle.fed_stamp.proofs.VersionLaws.{covers-joined}
use Rattle.fed_lattice.specs.Sets.{Has}
use Rattle.fed_lattice.specs.SetLaws.{Has-push}
use Rattle.fed_lattice.proofs.EntryLoops.{Has-item}
use Rattle.fed_lattice.proofs.VersionOfLaws.{raised_cases}
use Rattle.fed_tags.specs.Tags.{has, stamped, applied_tags, joined_tags}
use Rattle.fed_lattice.specs.Stays.{stays}
use Rattle.fed_tags.specs.TagLaws.{has_member, member, has_joined, has_applied, stamped_at}
use Rattle.fed_record.specs.Record.{IsCoveredStamp, AreCovered}

pub either_side : (a c b d : Bool) → stays a c b d ≡ true → (a ≡ true) ⊎ (b ≡ true)
either_side true c b d e = inl refl
either_side false c true d e = inr refl
either_side false c false d e = cc

pub old_or_new : (a b c : Bool) → ((a || b) && not c) ≡ true → (a ≡ true) ⊎ (b ≡ true)
old_or_new true b c e = inl refl
old_or_new false true c e = inr refl
old_or_new false false c e = cc

pub covered_same : {T : Type 0} {u v : List ℕ} {xs ys : List (T × StampValue)} → u ≡ v → xs ≡ ys → AreCovered v ys → AreCovered u xs
covered_same {T} {u} {v} {xs} {ys} e f p = subst (λ w. AreCovered w xs) (sym e) (subst (AreCovered v) (sym f) p)

-- a version covers what it covered before it was raised
pub covered_raised : (v : List ℕ) (s t : StampValue) → IsCoveredStamp v t → IsCoveredStamp (raised v s) t
covered_raised v s t (small, e) =
    let c : t.counter ≤ counter_of v t.site = leb-true t.counter (counter_of v t.site) e in (
      small,
      le-leb t.counter (counter_of (raised v s) t.site) (elim (raised_cases v s t.site) [
        | inl same ↦ subst (λ n. t.counter ≤ n) (sym same) c
        | inr up ↦ (let r : counter_of (raised v s) t.site ≡ max (counter_of v t.site) s.counter = up.1 in omega arith)
      ]),
    )

covered_either : (v w : List ℕ) (t : StampValue) → IsCoveredStamp v t ⊎ IsCoveredStamp w t → IsCoveredStamp (joined v w) t
covered_either v w t (inl (small, e)) = (small, covers-joined v w t ∙ ap (λ b. b || covers w t) e)
covered_either v w t (inr (small, e)) = (small, covers-joined v w t ∙ (elim (cases_Bool (covers v t)) [ inl f ↦ ap (λ b. b || covers w t) f | inr f ↦ ap (λ b. b || covers w t) f ∙ e ]))

module _ {T : Type 0} (R : T × StampValue → T × StampValue → Ordering) (o : IsTotalOrder R) (exact : CmpEqualImpliesEq R) where
  pub covered_joined : (v w : List ℕ) (xs ys : List (T × StampValue)) (a b : List ℕ) → AreCovered v xs → AreCovered w ys → AreCovered (joined v w) (joined_tags R xs a ys b)
  covered_joined v w xs ys a b p q k h =
      covered_either v w k.1 (elim (either_side (has R xs k) (covers a k.1) (has R ys k) (covers b k.1) (sym (has_joined R o exact k xs ys a b) ∙ has_member R o exact k _ h)) [
        | inl l ↦ inl (p k (member R o exact k xs l))
        | inr r ↦ inr (q k (member R o exact k ys r))
      ])

  pub covered_applied : (v : List ℕ) (s : StampValue) (xs : List (T × StampValue)) (c : List T × List (T × StampValue)) → IsCoveredStamp (raised v s) s → AreCovered v xs → AreCovered (raised v s) (applied_tags R xs s c)
  covered_applied v s xs c own p k h = elim (old_or_new (has R (stamped s c.0) k) (has R xs k) (has R c.1 k) (sym (has_applied R o exact k xs s c) ∙ has_member R o exact k _ h)) [
    | inl l ↦ subst (IsCoveredStamp (raised v s)) (sym (stamped_at R o exact s c.0 k (member R o exact k _ l)).1) own
    | inr r ↦ covered_raised v s k.1 (p k (member R o exact k xs r))
  ]

-- ---- pairs one after another
module _ {T : Type 0} (v : List ℕ) (xs : List (T × StampValue)) (i : ℕ) (x : T × StampValue) (l : i < length xs) (e : x ≡ get_or xs i x) where
  pub covered_item : AreCovered v xs → IsCoveredStamp v x.1
  covered_item all = all x (Has-item xs i x l e)

  pub covered_more : AreCovered v (take i xs) → IsCoveredStamp v x.1 → AreCovered v (take (i + 1) xs)
  covered_more before this p h = elim (Has-push (take i xs) x p (subst (λ ys. Has ys p) (take_more xs i x l ∙ ap (λ (y : T × StampValue). take i xs ++ y ∷ []) (sym e)) h)) [
    | inl k ↦ before p k
    | inr j ↦ subst (λ (q : T × StampValue). IsCoveredStamp v q.1) j this
  ]
