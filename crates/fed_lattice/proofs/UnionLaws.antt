-- What is read of a union of histories, and of histories with the same members.
use Rattle.std.specs.Option.{option_cmp}
use Rattle.std.specs.Ordering.{ord_max}
use Rattle.std.specs.Cmp.{IsTotalOrder}
use Rattle.std.proofs.Common.{◌≡◌, [], ◌∷◌, ◌++◌, Ordering, ◌||◌, refl, inl}
use Rattle.std.proofs.lemmas.Map.Lookups.{CmpEqualImpliesEq}
use Rattle.fed_lattice.specs.Sets.{IsSameSet}
use Rattle.fed_lattice.specs.History.{History, OneEach}
use Rattle.fed_lattice.specs.Latest.{latest}
use Rattle.fed_lattice.specs.LatestLaws.{latest_stands, latest_from_stands}
use Rattle.fed_lattice.specs.Register.{joined_registers}
use Rattle.fed_lattice.specs.RegisterLaws.{register_joined_stands, register_stands_same}
use Rattle.fed_lattice.specs.Stage.{greatest_value}
use Rattle.fed_lattice.specs.StageLaws.{stage_joined_stands, stage_stands_same, stage_stands_for_greatest, stage_from_stands}
use Rattle.fed_lattice.specs.Flag.{has_changes}

module _ {T : Type 0} where
  pub one_each_same : (g h : History T) → IsSameSet g h → OneEach g → OneEach h
  one_each_same g h same one e f i j = one e f (same.0 e i) (same.0 f j)

  pub register_union : (cmp : T → T → Ordering) → IsTotalOrder cmp → (g h : History T) → OneEach (g ++ h) → latest (g ++ h) ≡ joined_registers cmp (latest g) (latest h)
  register_union cmp o g h one = latest_from_stands _ _ (g ++ h) one (latest_stands (g ++ h)) (register_joined_stands cmp o (latest g) (latest h) g h (latest_stands g) (latest_stands h))

  pub latest_same : (g h : History T) → IsSameSet g h → OneEach g → latest g ≡ latest h
  latest_same g h same one = latest_from_stands _ _ h (one_each_same g h same one) (register_stands_same (latest g) g h same (latest_stands g)) (latest_stands h)

  pub has_changes_union : (g h : History T) → has_changes (g ++ h) ≡ (has_changes g || has_changes h)
  has_changes_union [] h = refl
  has_changes_union (e ∷ g) h = refl

  pub has_changes_same : (g h : History T) → IsSameSet g h → has_changes g ≡ has_changes h
  has_changes_same [] [] same = refl
  has_changes_same [] (f ∷ h) same = absurd (same.0 f (inl refl))
  has_changes_same (e ∷ g) [] same = absurd (same.1 e (inl refl))
  has_changes_same (e ∷ g) (f ∷ h) same = refl

module _ {T : Type 0} (cmp : T → T → Ordering) (o : IsTotalOrder cmp) (exact : CmpEqualImpliesEq cmp) where
  pub greatest_union : (g h : History T) → greatest_value cmp (g ++ h) ≡ ord_max (option_cmp cmp) (greatest_value cmp g) (greatest_value cmp h)
  greatest_union g h = stage_from_stands cmp o exact _ _ (g ++ h) (stage_stands_for_greatest cmp o (g ++ h))
      (stage_joined_stands cmp o (greatest_value cmp g) (greatest_value cmp h) g h (stage_stands_for_greatest cmp o g) (stage_stands_for_greatest cmp o h))

  pub greatest_same : (g h : History T) → IsSameSet g h → greatest_value cmp g ≡ greatest_value cmp h
  greatest_same g h same = stage_from_stands cmp o exact _ _ h (stage_stands_same cmp (greatest_value cmp g) g h same (stage_stands_for_greatest cmp o g)) (stage_stands_for_greatest cmp o h)
