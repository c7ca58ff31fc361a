-- The words that name the sites, one after another.
use Rattle.std.proofs.Common.{◌≡◌, ℕ, ◌+◌, ◌<◌, Bool, true, List, [], ◌∷◌, ◌++◌, length, map, get_or, Some, None, is_some, refl, ap, ◌∙◌}
use Rattle.std.specs.Prelude.{take}
use Rattle.std.specs.List.{filter_map, list_all, list_any}
use Rattle.std.proofs.lemmas.List.{take_more, map-append, length-map, get_or-map}
use Rattle.std.proofs.lemmas.List.Elements.{filter_map-append}
use Rattle.std.proofs.lemmas.List.Folds.{list_all-append, list_all_at}
use Rattle.fed_words.proofs.Given.{when_some}
use Rattle.fed_script.specs.Rosters.{site_of, sites_in}

more : (words : List (List ℕ)) (word : List ℕ) (sites : List (List ℕ × ℕ)) (site : List ℕ × ℕ) → sites_in words ≡ Some sites → site_of word ≡ Some site → sites_in (words ++ word ∷ []) ≡ Some (sites ++ site ∷ [])
more words word sites site before here =
    let parts = when_some (list_all (λ w. is_some (site_of w)) words) (filter_map site_of words) sites before in
    let all : list_all (λ w. is_some (site_of w)) (words ++ word ∷ []) ≡ true = list_all-append (λ w. is_some (site_of w)) words (word ∷ []) ∙ rw (parts.0, here) refl in
    let named : filter_map site_of (words ++ word ∷ []) ≡ sites ++ site ∷ [] = filter_map-append site_of words (word ∷ []) ∙ rw (parts.1, here) refl in
    rw (all, named) refl

-- the first words and one more, which names a site
pub sites_in-more : {X : Type 0} (text : X → List ℕ) (words : List X) (i : ℕ) (d : X) (sites : List (List ℕ × ℕ)) (site : List ℕ × ℕ) → i < length words
    → sites_in (map text (take i words)) ≡ Some sites → site_of (text (get_or words i d)) ≡ Some site → sites_in (map text (take (i + 1) words)) ≡ Some (sites ++ site ∷ [])
sites_in-more text words i d sites site within before here =
    ap (λ ws. sites_in (map text ws)) (take_more words i d within) ∙ ap sites_in (map-append text (take i words) (get_or words i d ∷ [])) ∙ more (map text (take i words)) (text (get_or words i d)) sites site before here

-- words of which one names no site
pub sites_in-none : {X : Type 0} (text : X → List ℕ) (words : List X) (i : ℕ) (d : X) → i < length words → site_of (text (get_or words i d)) ≡ None → sites_in (map text words) ≡ None
sites_in-none text words i d within none =
    let none_there : site_of (get_or (map text words) i []) ≡ None = ap site_of (get_or-map text words i d [] within) ∙ none in
    let within_map : i < length (map text words) = rw (length-map words text) within in
    rw (list_all_at (λ w. is_some (site_of w)) (map text words) i [] within_map (rw none_there refl)) refl

pub list_any-map : {X Y : Type 0} (p : Y → Bool) (f : X → Y) (xs : List X) → list_any p (map f xs) ≡ list_any (λ x. p (f x)) xs
list_any-map p f [] = refl
list_any-map p f (x ∷ xs) = rw (list_any-map p f xs) refl
