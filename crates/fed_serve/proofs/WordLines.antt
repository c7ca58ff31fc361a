-- Words that are given apart, as values of their own.
use Rattle.std.specs.Borrow.{Bor}
use Rattle.std.proofs.Common.{◌≡◌, ℕ, Bool, List, [], ◌∷◌, ◌++◌, map, refl, ap}
use Rattle.std.specs.Prelude.{◌&&◌}
use Rattle.std.specs.List.{flat_map, join_by, list_all}

abbrev now : Bor (List ℕ) → List ℕ
now word = word.now

pub all_words : (f : List ℕ → Bool) (words : List (Bor (List ℕ))) → list_all f (map now words) ≡ list_all (λ (word : Bor (List ℕ)). f word.now) words
all_words f [] = refl
all_words f (word ∷ words) = ap (λ b. f word.now && b) (all_words f words)

more_words : (between : List ℕ) (words : List (Bor (List ℕ))) → flat_map (λ (word : List ℕ). between ++ word) (map now words) ≡ flat_map (λ (word : Bor (List ℕ)). between ++ word.now) words
more_words between [] = refl
more_words between (word ∷ words) = ap (λ bs. (between ++ word.now) ++ bs) (more_words between words)

pub joined_words : (between : List ℕ) (words : List (Bor (List ℕ))) → join_by (λ (word : List ℕ). word) between (map now words) ≡ join_by (λ (word : Bor (List ℕ)). word.now) between words
joined_words between [] = refl
joined_words between (word ∷ words) = ap (λ bs. word.now ++ bs) (more_words between words)
