-- One site more.
use Rattle.std.proofs.Common.{◌≡◌, ℕ, zero, suc, ◌+◌, Bool, true, false, Some, None, ◌∷◌, ◌++◌, [], ap, add-one, arith}
use Rattle.std.specs.List.{range_with_len}
use Rattle.std.specs.Prelude.{if◌then◌else◌}

range-suc : (a n j : ℕ) → a + n ≡ j → range_with_len a (suc n) ≡ range_with_len a n ++ j ∷ []
range-suc a zero j e = let same : a ≡ j = omega arith in ap (λ x. x ∷ []) same
range-suc a (suc n) j e = ap (λ l. a ∷ l) (range-suc (a + 1) n j (omega arith))

pub sites-more : (n : ℕ) → range_with_len 0 (n + 1) ≡ range_with_len 0 n ++ n ∷ []
sites-more n = rw add-one (range-suc 0 n n (omega arith))

-- what is chosen where a test passes
pub if_some : {T : Type 0} (test : Bool) (x y : T) → (if test then Some x else None) ≡ Some y → x ≡ y
if_some true x y e = cc
if_some false x y e = absurd cc
