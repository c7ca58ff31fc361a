-- A value for each site that passes, one after another.
use Rattle.std.specs.Prelude.{filter, map, if◌then◌else◌}
use Rattle.std.specs.List.{range_with_len}
use Rattle.std.proofs.Common.{◌≡◌, Bool, true, false, refl, ℕ, suc, List, [], ◌∷◌, ◌++◌, sym, ap, ap₂, ◌∙◌}
use Rattle.std.proofs.lemmas.List.{map-append}
use Rattle.std.proofs.lemmas.List.Elements.{filter-append}
use Rattle.fed_qstat.proofs.Ranges.{grown}

mapped_if : {D : Type 0} (f : ℕ → D) (b : Bool) (x : ℕ) → (if b then f x ∷ [] else []) ≡ map f (if b then x ∷ [] else [])
mapped_if f true x = refl
mapped_if f false x = refl

-- a value for each site that passes
pub kept_more : {D : Type 0} (f : ℕ → D) (p : ℕ → Bool) (n m site : ℕ) (old new : List D) → m ≡ suc n → site ≡ n → old ≡ map f (filter p (range_with_len 0 n)) → new ≡ old ++ (if p site then f site ∷ [] else []) → new ≡ map f (filter p (range_with_len 0 m))
kept_more {D} f p n m site old new next same before more =
    more ∙ ap₂ (λ (l k : List D). l ++ k) before (ap (λ s. if p s then f s ∷ [] else []) same ∙ mapped_if f (p n) n)
    ∙ sym (map-append f (filter p (range_with_len 0 n)) (filter p (n ∷ [])))
    ∙ ap (map f) (sym (filter-append p (range_with_len 0 n) (n ∷ [])) ∙ ap (filter p) (grown n m next))
