-- That the order of the kinds of holds is total and tells them apart.
use Rattle.std.specs.Prelude.{refl}
use Rattle.std.specs.Cmp.{IsTotalOrder, nat_cmp_total}
use Rattle.std.proofs.lemmas.Cmp.{on_total}
use Rattle.std.proofs.lemmas.Map.Lookups.{CmpEqualImpliesEq}
use Rattle.fed_model.specs.declared.holds.HoldKind.TheVariants.{User, Operator, System}
use Rattle.fed_model.specs.Hold.{bit_of, kind_cmp}

pub kind_total : IsTotalOrder kind_cmp
kind_total = on_total bit_of nat_cmp_total

pub exact_kind : CmpEqualImpliesEq kind_cmp
exact_kind User User e = refl
exact_kind User Operator e = cc
exact_kind User System e = cc
exact_kind Operator User e = cc
exact_kind Operator Operator e = refl
exact_kind Operator System e = cc
exact_kind System User e = cc
exact_kind System Operator e = cc
exact_kind System System e = refl
