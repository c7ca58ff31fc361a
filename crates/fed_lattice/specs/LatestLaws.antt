-- The laws of the change with the greatest stamp.
use Rattle.std.specs.Cmp.{IsTotalOrder, nat_cmp_total}
use Rattle.std.proofs.Common.{◌≡◌, [], ◌∷◌, ◌++◌, ◌⊎◌, Bool, true, false, cond, Option, Some, None, refl, sym, ap, ap₂, subst, ◌∙◌, inl, inr, append-nil}
use Rattle.std.proofs.lemmas.Cmp.{upto, on_total, then_total}
use Rattle.fed_stamp.specs.Stamp.{StampValue}
use Rattle.fed_lattice.specs.Sets.{Has}
use Rattle.fed_lattice.specs.SetLaws.{Has-left, Has-right, Has-cases, Has-only}
use Rattle.fed_lattice.specs.History.{History, OneEach}
use Rattle.fed_lattice.specs.Order.{IsUpTo}
use Rattle.fed_lattice.specs.Latest.{stamp_cmp, is_before, later, latest, IsLatest}
use Rattle.fed_lattice.specs.Register.{register_stands_for}
use Rattle.fed_lattice.specs.ExactLaws.{exact_stamp}
use Rattle.fed_lattice.specs.GreatestLaws.{upto_itself, upto_antisymm, upto_from_lt, upto_from_not_lt}

pub stamp_total : IsTotalOrder stamp_cmp
stamp_total = then_total (on_total (λ (s : StampValue). s.counter) nat_cmp_total) (on_total (λ (s : StampValue). s.site) nat_cmp_total)

module _ {T : Type 0} where
  pub latest_joined : (x y m : StampValue × T) (g h : History T) → IsLatest g x → IsLatest h y → (m ≡ x) ⊎ (m ≡ y) → IsUpTo stamp_cmp x.0 m.0 → IsUpTo stamp_cmp y.0 m.0 → IsLatest (g ++ h) m
  latest_joined x y m g h p q either xm ym = (
    elim either [
      | inl e ↦ Has-left g h m (subst (Has g) (sym e) p.0)
      | inr e ↦ Has-right g h m (subst (Has h) (sym e) q.0)
    ],
    λ e c. elim (Has-cases g h e c) [
      | inl a ↦ upto stamp_total e.0 x.0 m.0 (p.1 e a) xm
      | inr b ↦ upto stamp_total e.0 y.0 m.0 (q.1 e b) ym
    ],
  )

  later_joined : (b : Bool) (p q : StampValue × T) (g h : History T) → is_before p.0 q.0 ≡ b → IsLatest g p → IsLatest h q → IsLatest (g ++ h) (cond b q p)
  later_joined true p q g h e i j = latest_joined p q q g h i j (inr refl) (upto_from_lt stamp_cmp stamp_total p.0 q.0 e) (upto_itself stamp_cmp stamp_total q.0)
  later_joined false p q g h e i j = latest_joined p q p g h i j (inl refl) (upto_itself stamp_cmp stamp_total p.0) (upto_from_not_lt stamp_cmp stamp_total p.0 q.0 e)

  cond_later : (b : Bool) (p q : StampValue × T) → Some (cond b q p) ≡ cond b (Some q) (Some p)
  cond_later true p q = refl
  cond_later false p q = refl

  -- of the latest changes of two histories the later is that of the union
  pub later_stands : (x y : Option (StampValue × T)) (g h : History T) → register_stands_for x g → register_stands_for y h → register_stands_for (later x y) (g ++ h)
  later_stands None None g h p q = ap₂ (λ a b. a ++ b) p q
  later_stands None (Some y) g h p q = subst (λ l. IsLatest (l ++ h) y) (sym p) q
  later_stands (Some x) None g h p q = subst (λ l. IsLatest l x) (sym (append-nil g) ∙ ap (λ l. g ++ l) (sym q)) p
  later_stands (Some x) (Some y) g h p q =
      subst (λ n. register_stands_for n (g ++ h)) (cond_later (is_before x.0 y.0) x y) (later_joined (is_before x.0 y.0) x y g h refl p q)

  pub latest_stands : (h : History T) → register_stands_for (latest h) h
  latest_stands [] = refl
  latest_stands (e ∷ h) =
      let one : IsLatest (e ∷ []) e = (inl refl, λ f k. subst (λ (d : StampValue × T). IsUpTo stamp_cmp d.0 e.0) (Has-only e f k) (upto_itself stamp_cmp stamp_total e.0)) in
      later_stands (Some e) (latest h) (e ∷ []) h one (latest_stands h)

  -- where different changes have different stamps, one change alone is the latest
  pub latest_from_stands : (x y : Option (StampValue × T)) (h : History T) → OneEach h → register_stands_for x h → register_stands_for y h → x ≡ y
  latest_from_stands None None h one p q = refl
  latest_from_stands None (Some y) h one p q = absurd (subst (λ l. Has l y) p q.0)
  latest_from_stands (Some x) None h one p q = absurd (subst (λ l. Has l x) q p.0)
  latest_from_stands (Some x) (Some y) h one p q =
      ap Some (one x y p.0 q.0 (upto_antisymm stamp_cmp stamp_total exact_stamp x.0 y.0 (q.1 x p.0) (p.1 y q.0)))
