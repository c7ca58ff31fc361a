-- Words that are each read, one after another.
use Rattle.std.proofs.Common.{◌≡◌, ℕ, ◌+◌, ◌<◌, true, List, [], ◌∷◌, ◌++◌, length, map, get_or, Option, Some, None, is_some, refl, ap, ◌∙◌}
use Rattle.std.specs.Prelude.{take}
use Rattle.std.specs.List.{filter_map, list_all}
use Rattle.std.proofs.lemmas.List.{take_more, map-append, length-map, get_or-map}
use Rattle.std.proofs.lemmas.List.Elements.{filter_map-append}
use Rattle.std.proofs.lemmas.List.Folds.{list_all-append, list_all_at}
use Rattle.fed_words.proofs.Given.{when_some}
use Rattle.fed_looks.specs.Look.{each}

module _ {A : Type 0} (f : List ℕ → Option A) where
  more : (words : List (List ℕ)) (word : List ℕ) (read : List A) (one : A) → each f words ≡ Some read → f word ≡ Some one → each f (words ++ word ∷ []) ≡ Some (read ++ one ∷ [])
  more words word read one before here =
      let parts = when_some (list_all (λ w. is_some (f w)) words) (filter_map f words) read before in
      let all : list_all (λ w. is_some (f w)) (words ++ word ∷ []) ≡ true = list_all-append (λ w. is_some (f w)) words (word ∷ []) ∙ rw (parts.0, here) refl in
      let named : filter_map f (words ++ word ∷ []) ≡ read ++ one ∷ [] = filter_map-append f words (word ∷ []) ∙ rw (parts.1, here) refl in
      rw (all, named) refl

  -- the first words and one more, which can be read
  pub each-more : {X : Type 0} (text : X → List ℕ) (words : List X) (i : ℕ) (d : X) (read : List A) (one : A) → i < length words
      → each f (map text (take i words)) ≡ Some read → f (text (get_or words i d)) ≡ Some one → each f (map text (take (i + 1) words)) ≡ Some (read ++ one ∷ [])
  each-more text words i d read one within before here =
      ap (λ ws. each f (map text ws)) (take_more words i d within) ∙ ap (each f) (map-append text (take i words) (get_or words i d ∷ [])) ∙ more (map text (take i words)) (text (get_or words i d)) read one before here

  -- words of which one can't be read
  pub each-none : {X : Type 0} (text : X → List ℕ) (words : List X) (i : ℕ) (d : X) → i < length words → f (text (get_or words i d)) ≡ None → each f (map text words) ≡ None
  each-none text words i d within none =
      let none_there : f (get_or (map text words) i []) ≡ None = ap f (get_or-map text words i d [] within) ∙ none in
      let within_map : i < length (map text words) = rw (length-map words text) within in
      rw (list_all_at (λ w. is_some (f w)) (map text words) i [] within_map (rw none_there refl)) refl
