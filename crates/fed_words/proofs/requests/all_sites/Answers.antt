use Rattle.std.proofs.Common.{◌≡◌, ℕ, ◌∷◌, [], ◌++◌, sym, ap₂, ◌∙◌, arith}
use Rattle.std.proofs.lemmas.List.{take_more_set}
use Rattle.fed_words.proofs.SiteSteps.{if_some, sites-more}
use Rattle.fed_words.proofs.requests.all_sites.Goals as goal

pub loop-number-preserved : goal.loop-number-preserved
loop-number-preserved c =
    let same : c.unwrap.result ≡ c.loop-number.number = sym (if_some _ _ _ (sym c.new-in-loop-number.ensures ∙ c.unwrap.ensures)) in
    take_more_set c.loop-number.sites c.loop-number.number c.unwrap.result (omega arith)
    ∙ ap₂ (λ l (x : ℕ). l ++ x ∷ []) c.loop-number.invariant same
    ∙ sym (sites-more c.loop-number.number)
