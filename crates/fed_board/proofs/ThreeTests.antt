-- Three tests in a row, from what one of them says.
use Rattle.std.proofs.Common.{◌≡◌, Bool, true, false, ◌&&◌, sym, ap₂}
use Rattle.std.proofs.lemmas.Bool.{and_left, and_right}

pub third_alone : (v j r : Bool) → v ≡ true → j ≡ true → r ≡ (v && (j && r))
third_alone v j r p q = ap₂ (λ x y. x && (y && r)) (sym p) (sym q)

pub not_second : (v j r : Bool) → j ≡ false → false ≡ (v && (j && r))
not_second v j r e = sym (and_right v (j && r) (and_left j r e))

pub not_first : (v r : Bool) → v ≡ false → false ≡ (v && r)
not_first v r e = sym (and_left v r e)
