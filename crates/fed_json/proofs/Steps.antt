-- What a reading that has no fault says of its steps.
use Rattle.std.proofs.Common.{◌≡◌, Bool, true, false, Option, Some, None, Ok, Err, refl}
use Rattle.fed_json.specs.declared.flaws.Flaw.TheVariants.{Shape, Range}
use Rattle.fed_json.specs.Reading.{Reading, both, or_shape, where_true}

pub both_ok : {A B : Type 0} (r : Reading A) (q : Reading B) (p : A × B) → both r q ≡ Ok p → (r ≡ Ok p.0) × (q ≡ Ok p.1)
both_ok (Ok x) (Ok y) p e =
    let same : (x, y) ≡ p = cc in
    rw (← same) (refl, refl)
both_ok (Ok x) (Err d) p e = absurd cc
both_ok (Err Shape) q p e = absurd cc
both_ok (Err Range) (Ok y) p e = absurd cc
both_ok (Err Range) (Err d) p e = absurd cc

pub or_shape_ok : {A : Type 0} (o : Option A) (y : A) → or_shape o ≡ Ok y → o ≡ Some y
or_shape_ok (Some x) y e = cc
or_shape_ok None y e = absurd cc

pub where_true_ok : {A : Type 0} (test : A → Bool) (x y : A) (b : Bool) → test x ≡ b → where_true test x ≡ Ok y → (x ≡ y) × (b ≡ true)
where_true_ok test x y true t e = (let same : where_true test x ≡ Ok x = rw t refl in cc, refl)
where_true_ok test x y false t e = absurd (let none : where_true test x ≡ Err Range = rw t refl in cc)
