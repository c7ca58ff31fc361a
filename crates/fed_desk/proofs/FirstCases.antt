-- The first case of a table that applies, from some case on.
use Rattle.std.specs.Prelude.{Some}
use Rattle.std.proofs.Common.{◌≡◌, ℕ, ◌+◌, ◌<◌, List, ◌∷◌, true, false, length, drop, get_or, sym, ap, ◌∙◌}
use Rattle.std.proofs.lemmas.Bool.{cond-true, cond-false}
use Rattle.std.proofs.lemmas.List.{drop_more}
use Rattle.fed_model.specs.Desk.{Case, first_of}

module _ (cases : List Case) (i : ℕ) (c : Case) (within : i < length cases) (at : c ≡ get_or cases i c)
    (left : first_of (drop i cases) ≡ first_of cases) where
  item_at : first_of (drop i cases) ≡ first_of (c ∷ drop (i + 1) cases)
  item_at = ap first_of (drop_more cases i c within ∙ ap (λ x. x ∷ drop (i + 1) cases) (sym at))

  pub applies_first : c.0 ≡ true → Some c.1 ≡ first_of cases
  applies_first e = sym (cond-true c.0 (Some c.1) (first_of (drop (i + 1) cases)) e) ∙ sym item_at ∙ left

  pub applies_not : c.0 ≡ false → first_of (drop (i + 1) cases) ≡ first_of cases
  applies_not e = sym (cond-false c.0 (Some c.1) (first_of (drop (i + 1) cases)) e) ∙ sym item_at ∙ left
