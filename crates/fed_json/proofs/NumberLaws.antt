-- Whole numbers are read as what they are the values of.
use Rattle.std.proofs.Common.{◌≡◌, ℕ, leb, Ok, refl}
use Rattle.std.specs.Prelude.{ℤ, pos, negsuc, ◌&&◌}
use Rattle.std.proofs.lemmas.Bool.{and_parts, leb-true, le-leb}
use Rattle.serde_json.specs.Data.{Data, null, boolean, number, string, array, object, unsigned, negative, float}
use Rattle.fed_lattice.proofs.ResultLaws.{when_ok}
use Rattle.fed_json.specs.declared.flaws.Flaw.TheVariants.{Range}
use Rattle.fed_json.specs.Numbers.{natural_value, integer_value, natural_in, integer_of}
use Rattle.fed_model.specs.Ranges.{IsFrom}
use Rattle.fed_json.proofs.Forms.{IsForm}

natural_takes : (least most : ℕ) (d : Data) (n : ℕ) → natural_in least most d ≡ Ok n → (d ≡ natural_value n) × IsFrom least most n
natural_takes least most (number (unsigned m)) n e =
    let w = when_ok (leb least m && leb m most) Range (Ok m) n e in
    let same : m ≡ n = cc in
    let t = and_parts (leb least m) (leb m most) w.0 in
    rw (← same) (refl, (leb-true least m t.0, leb-true m most t.1))
natural_takes least most (number (negative z)) n e = absurd cc
natural_takes least most (number (float x)) n e = absurd cc
natural_takes least most null n e = absurd cc
natural_takes least most (boolean b) n e = absurd cc
natural_takes least most (string s) n e = absurd cc
natural_takes least most (array ds) n e = absurd cc
natural_takes least most (object ms) n e = absurd cc

pub natural_form : (least most : ℕ) → IsForm (natural_in least most) natural_value (IsFrom least most)
natural_form least most = record {
  takes = natural_takes least most;
  again = λ n h. rw (le-leb least n h.0, le-leb n most h.1) refl;
}

integer_takes : (d : Data) (z : ℤ) → integer_of d ≡ Ok z → (d ≡ integer_value z) × Unit {0}
integer_takes (number (unsigned m)) z e =
    let same : pos m ≡ z = cc in
    rw (← same) (refl, tt)
integer_takes (number (negative (negsuc m))) z e =
    let same : negsuc m ≡ z = cc in
    rw (← same) (refl, tt)
integer_takes (number (negative (pos m))) z e = absurd cc
integer_takes (number (float x)) z e = absurd cc
integer_takes null z e = absurd cc
integer_takes (boolean b) z e = absurd cc
integer_takes (string s) z e = absurd cc
integer_takes (array ds) z e = absurd cc
integer_takes (object ms) z e = absurd cc

integer_again : (z : ℤ) → Unit {0} → integer_of (integer_value z) ≡ Ok z
integer_again (pos n) h = refl
integer_again (negsuc n) h = refl

pub integer_form : IsForm integer_of integer_value (λ _. Unit {0})
integer_form = record { takes = integer_takes; again = integer_again }
