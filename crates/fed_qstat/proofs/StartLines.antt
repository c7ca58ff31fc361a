-- The lines of jobs, one after another.
use Rattle.std.proofs.Common.{◌≡◌, ℕ, ◌+◌, ◌<◌, List, [], ◌∷◌, ◌++◌, flat_map, length, get_or, take, sym, ap, ap₂, ◌∙◌, append-nil}
use Rattle.std.proofs.lemmas.Grind.{flat_map-append}
use Rattle.std.proofs.lemmas.List.{take_more}

pub line_more : {X : Type 0} (line : X → List ℕ) (all : List X) (i : ℕ) (x : X) (old new text : List ℕ) → i < length all → x ≡ get_or all i x → old ≡ flat_map line (take i all) → new ≡ old ++ text → text ≡ line x → new ≡ flat_map line (take (i + 1) all)
line_more line all i x old new text within at before more said =
    more ∙ ap₂ (λ l m. l ++ m) before (said ∙ sym (append-nil (line x)))
    ∙ sym (flat_map-append line (take i all) (x ∷ []))
    ∙ ap (flat_map line) (sym (take_more all i x within ∙ ap (λ y. take i all ++ y ∷ []) (sym at)))
