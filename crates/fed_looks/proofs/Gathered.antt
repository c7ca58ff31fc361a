-- What is said of each of a list, one after another.
use Rattle.std.proofs.Common.{◌≡◌, ℕ, ◌+◌, ◌<◌, List, [], ◌∷◌, ◌++◌, flat_map, length, get_or, take, sym, ap, ap₂, ◌∙◌, append-nil}
use Rattle.std.proofs.lemmas.Grind.{flat_map-append}
use Rattle.std.proofs.lemmas.List.{take_more}

pub gathered_more : {X Y : Type 0} (f : X → List Y) (all : List X) (i : ℕ) (x : X) (old new : List Y) → i < length all → x ≡ get_or all i x → old ≡ flat_map f (take i all) → new ≡ old ++ f x → new ≡ flat_map f (take (i + 1) all)
gathered_more f all i x old new within at before more =
    more ∙ ap₂ (λ l m. l ++ m) before (sym (append-nil (f x)))
    ∙ sym (flat_map-append f (take i all) (x ∷ []))
    ∙ ap (flat_map f) (sym (take_more all i x within ∙ ap (λ y. take i all ++ y ∷ []) (sym at)))
