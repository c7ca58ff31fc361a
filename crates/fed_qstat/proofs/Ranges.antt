-- What is said of numbers, one after another.
use Rattle.std.specs.List.{range_with_len}
use Rattle.std.proofs.Common.{◌≡◌, ℕ, suc, ◌+◌, List, [], ◌∷◌, ◌++◌, flat_map, sym, ap, ap₂, ◌∙◌, append-nil, arith}
use Rattle.std.proofs.lemmas.Grind.{flat_map-append}
use Rattle.fed_qstat.proofs.NamesBelow.{range_more}

-- the numbers below n, and n
pub grown : (n m : ℕ) → m ≡ suc n → range_with_len 0 n ++ n ∷ [] ≡ range_with_len 0 m
grown n m next =
    let zeroth : n ≡ 0 + n = omega arith in
    ap (λ k. range_with_len 0 n ++ k ∷ []) zeroth ∙ sym (range_more n 0) ∙ ap (range_with_len 0) (sym next)

pub sites_more : (line : ℕ → List ℕ) (n m site : ℕ) (old new text : List ℕ) → m ≡ suc n → site ≡ n → old ≡ flat_map line (range_with_len 0 n) → new ≡ old ++ text → text ≡ line site → new ≡ flat_map line (range_with_len 0 m)
sites_more line n m site old new text next same before more said =
    more ∙ ap₂ (λ l k. l ++ k) before (said ∙ ap line same ∙ sym (append-nil (line n)))
    ∙ sym (flat_map-append line (range_with_len 0 n) (n ∷ []))
    ∙ ap (flat_map line) (grown n m next)
