-- The words that a line of a site may begin with, or have behind a user, each behind its kind. They are those of the tables
-- by which words are read.
use Rattle.std.specs.Prelude.{ℕ, List, [], ◌∷◌, ◌++◌, codes, flat_map, map}
use Rattle.fed_words.specs.Utility.{utilities}
use Rattle.fed_script.specs.Verb.{verbs}
use Rattle.fed_looks.specs.LookWord.{look_words}

abbrev pub lines_of_kind : List ℕ → List (List ℕ) → List ℕ
lines_of_kind kind words = flat_map (λ word. kind ++ codes " " ++ word ++ 10 ∷ []) words

-- the words of a table
abbrev pub firsts : {T : Type 0} → List (List ℕ × T) → List (List ℕ)
firsts table = map (λ entry. entry.0) table

-- A site's own words stand where a user would, and `roster` is one of them in front of names with nodes alone.
abbrev pub lines_of_words : List ℕ
lines_of_words = lines_of_kind (codes "utility") (firsts utilities)
    ++ lines_of_kind (codes "look") (firsts look_words)
    ++ lines_of_kind (codes "site") (firsts verbs ++ codes "roster" ∷ [])
    ++ lines_of_kind (codes "user") (codes "reserve" ∷ codes "cancel" ∷ [])
