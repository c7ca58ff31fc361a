-- The text of identifiers.
use Rattle.std.specs.Prelude.{ℕ, List, ◌∷◌, ◌++◌, slice_get, option_map, unwrap_or}
use Rattle.std.specs.Fmt.{decimal}
use Rattle.fed_stamp.specs.Stamp.{StampValue}

-- the name of a site, or `#` and its number where the roster has no such site
abbrev pub text_of_site : List (List ℕ × ℕ) → ℕ → List ℕ
text_of_site roster site = unwrap_or (option_map (λ s. s.0) (slice_get roster site)) (35 ∷ decimal site)

-- a counter, a dot and a site
abbrev pub text_of_identifier : List (List ℕ × ℕ) → StampValue → List ℕ
text_of_identifier roster id = decimal id.counter ++ 46 ∷ text_of_site roster id.site
