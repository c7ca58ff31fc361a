-- Versions that are read.
use Rattle.std.proofs.Common.{◌≡◌, ℕ, suc, zero, ◌≤◌, eqb, true, length, List, [], ◌∷◌, Option, Some, None, Ok, refl, sym, ap, ◌∙◌, arith}
use Rattle.std.specs.Prelude.{All, IsSome, IfSome}
use Rattle.std.specs.Option.{ok_or}
use Rattle.std.specs.List.{AllByRecursion}
use Rattle.serde_json.specs.Data.{Data}
use Rattle.fed_stamp.specs.declared.stamps.TheConstants.{MAX_COUNTER}
use Rattle.fed_json.specs.declared.flaws.Flaw.TheVariants.{Range}
use Rattle.fed_json.specs.Numbers.{natural_value, natural_in}
use Rattle.fed_model.specs.Ranges.{IsFrom}
use Rattle.fed_json.specs.Values.{elements_of, all_of}
use Rattle.fed_json.proofs.NumberLaws.{natural_form}
use Rattle.fed_json.proofs.FormLaws.{all_takes}
use Rattle.fed_job_json.specs.Stamps.{version_of}

pub all_from : (P : ℕ → Type 0) (xs : List ℕ) → AllByRecursion P xs → All P xs
all_from P [] h k d less = absurd (omega arith)
all_from P (x ∷ xs) h zero d less = h.0
all_from P (x ∷ xs) h (suc k) d less = all_from P xs h.1 k d (omega arith)

weaker : (xs : List ℕ) → AllByRecursion (IsFrom 0 MAX_COUNTER) xs → AllByRecursion (λ c. c ≤ MAX_COUNTER) xs
weaker [] h = tt
weaker (x ∷ xs) h = (h.0.1, weaker xs h.1)

eqb_is : (a b : ℕ) → a ≡ b → eqb a b ≡ true
eqb_is a b e = grind arith

made : (r : Option (List ℕ)) (cs : List ℕ) → IsSome r → IfSome r (λ v. v ≡ cs) → ok_or r Range ≡ Ok cs
made (Some v) cs some same = ap (λ (v : List ℕ). Ok v) same
made None cs some same = absurd cc

pub version_read : (d : Data) (ds : List Data) (cs : List ℕ) (r : Option (List ℕ)) → Ok ds ≡ elements_of d → length ds ≡ 16 → Ok cs ≡ all_of (natural_in 0 MAX_COUNTER) ds
    → (All (λ c. c ≤ MAX_COUNTER) cs → IsSome r) → IfSome r (λ v. v ≡ cs) → ok_or r Range ≡ version_of d
version_read d ds cs r e many read some same =
    let t = all_takes (natural_in 0 MAX_COUNTER) natural_value (IsFrom 0 MAX_COUNTER) (natural_form 0 MAX_COUNTER) ds cs (sym read) in
    made r cs (some (all_from (λ c. c ≤ MAX_COUNTER) cs (weaker cs t.1))) same ∙ rw (← e, eqb_is (length ds) 16 many, ← read) refl
