-- That the order of names tells them apart.
use Rattle.std.specs.Ordering.{nat_cmp}
use Rattle.std.specs.Cmp.Lexicographic.{slice_cmp}
use Rattle.std.proofs.lemmas.Map.Lookups.{CmpEqualImpliesEq, exact_bytes}

pub exact_word : CmpEqualImpliesEq (slice_cmp nat_cmp)
exact_word = exact_bytes
