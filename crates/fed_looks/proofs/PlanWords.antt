-- What the words behind `plan` ask for.
use Rattle.std.specs.Prelude.{codes}
use Rattle.std.specs.Str.{bytes_eq}
use Rattle.std.proofs.Common.{◌≡◌, ℕ, Bool, true, false, cond, not, ◌&&◌, List, [], ◌∷◌, length, map, Option, Some, None, refl, sym, ap, ◌∙◌, arith}
use Rattle.std.proofs.lemmas.List.{length-map}
use Rattle.std.specs.Option.{option_map}
use Rattle.fed_stamp.specs.Stamp.{StampValue}
use Rattle.fed_script.specs.Forms.{◌>>=◌}
use Rattle.fed_script.specs.Values.{identifier, moment}
use Rattle.fed_looks.specs.Look.{PlanAsked, each, may_be_left_out, plan_but}

module _ (roster : List (List ℕ × ℕ)) (here : ℕ) {W : Type 0} (text : W → List ℕ) where
  abbrev asked : List W → Option PlanAsked
  asked words = plan_but roster here (map text words)

  pub no_words : (words : List W) → length words ≡ 0 → None ≡ asked words
  no_words [] e = refl
  no_words (w ∷ ws) e = absurd (omega (arith, e))

  alone : (time : W) (others : List W) → length others ≡ 0 → None ≡ asked (time ∷ others)
  alone time [] e = refl
  alone time (o ∷ os) e = absurd (omega (arith, e))

  pub time_alone : (words : List W) (time : W) (others : List W) → words ≡ time ∷ others → length others ≡ 0 → None ≡ asked words
  time_alone words time others p e = alone time others e ∙ ap asked (sym p)

  module _ (words : List W) (time : W) (others : List W) (but : W) (jobs : List W) (p : words ≡ time ∷ others) (q : others ≡ but ∷ jobs) where
    abbrev said : Option PlanAsked
    said = moment (text time) >>= λ t. option_map (λ left_out. (t, left_out)) (each (identifier roster here) (map text jobs))

    whole : (a b : Bool) → bytes_eq (text but) (codes "but") ≡ a → may_be_left_out (length jobs) ≡ b → asked words ≡ cond (a && b) said None
    whole a b e f =
        let same : words ≡ time ∷ but ∷ jobs = p ∙ ap (λ os. time ∷ os) q in
        let count : may_be_left_out (length (map text jobs)) ≡ b = ap may_be_left_out (length-map jobs text) ∙ f in
        ap asked same ∙ (rw (e, count) refl)

    pub no_but : not (bytes_eq (text but) (codes "but")) ≡ true → None ≡ asked words
    no_but e = sym (whole false (may_be_left_out (length jobs)) (from_not (bytes_eq (text but) (codes "but")) e) refl)
      where
        from_not : (b : Bool) → not b ≡ true → b ≡ false
        from_not true e = absurd cc
        from_not false e = refl

    none_either : (a : Bool) → cond (a && false) said None ≡ None
    none_either true = refl
    none_either false = refl

    pub wrong_count : may_be_left_out (length jobs) ≡ false → None ≡ asked words
    wrong_count e = sym (whole (bytes_eq (text but) (codes "but")) false refl e ∙ none_either (bytes_eq (text but) (codes "but")))

    module _ (is_but : not (bytes_eq (text but) (codes "but")) ≡ false) (counted : may_be_left_out (length jobs) ≡ true) where
      from_not_not : (b : Bool) → not b ≡ false → b ≡ true
      from_not_not true e = refl
      from_not_not false e = absurd cc

      good : asked words ≡ said
      good = whole true true (from_not_not (bytes_eq (text but) (codes "but")) is_but) counted

      pub no_moment : moment (text time) ≡ None → None ≡ asked words
      no_moment e = sym (good ∙ rw e refl)

      pub no_job : (t : ℕ) → moment (text time) ≡ Some t → each (identifier roster here) (map text jobs) ≡ None → None ≡ asked words
      no_job t e f = sym (good ∙ rw (e, f) refl)

      pub plan_asked : (t : ℕ) (ids : List StampValue) → moment (text time) ≡ Some t → each (identifier roster here) (map text jobs) ≡ Some ids → Some (t, ids) ≡ asked words
      plan_asked t ids e f = sym (good ∙ rw (e, f) refl)
