-- The words of a script that name the sites.
use Rattle.std.specs.Prelude.{ℕ, Bool, ◌==◌, ◌||◌, List, codes, Option, Some, None, is_some, option_and_then, option_map, position, if◌then◌else◌}
use Rattle.std.specs.List.{before_first, after_first, filter_map, list_all, list_any}
use Rattle.std.specs.Result.{result_ok}
use Rattle.std.specs.Str.{bytes_eq}
use Rattle.fed_stamp.specs.Roster.{first_fault, ok_unless}
use Rattle.fed_words.specs.Number.{decimal_in}

abbrev pub is_colon : ℕ → Bool
is_colon byte = byte == 58

-- `NAME:NODES`
abbrev pub site_of : List ℕ → Option (List ℕ × ℕ)
site_of word = if is_some (position is_colon word)
    then option_map (λ nodes. (before_first is_colon word, nodes)) (decimal_in (after_first is_colon word))
    else None

-- the sites that the words name, where each names one
abbrev pub sites_in : List (List ℕ) → Option (List (List ℕ × ℕ))
sites_in words = if list_all (λ word. is_some (site_of word)) words then Some (filter_map site_of words) else None

-- the first word of another line, which may not be the name of a site
abbrev pub is_reserved : List ℕ → Bool
is_reserved name = bytes_eq name (codes "roster") || bytes_eq name (codes "equal")

-- the roster that the words name
abbrev pub roster_of : List (List ℕ) → Option (List (List ℕ × ℕ))
roster_of words = option_and_then (λ sites. if list_any (λ site. is_reserved site.0) sites
    then None else result_ok (ok_unless (first_fault sites) sites)) (sites_in words)
