-- The line that tells a site the roster, as `roster argonne:8 lemont:4`.
use Rattle.std.specs.Prelude.{ℕ, ◌==◌, Bool, true, false, ◌&&◌, List, [], ◌∷◌, ◌++◌, codes, Option, Some, None, is_some, option_map, position, unwrap_or, if◌then◌else◌}
use Rattle.std.specs.Cmp.Lexicographic.{pointwise}
use Rattle.std.specs.Fmt.{decimal}
use Rattle.std.specs.List.{join_by}
use Rattle.std.specs.Str.{bytes_eq}
use Rattle.fed_script.specs.Forms.{◌>>=◌}
use Rattle.fed_script.specs.Line.{words_in}
use Rattle.fed_script.specs.Rosters.{is_colon, roster_of}
use Rattle.fed_qstat.specs.Outcome.{answer_line}

-- ---- two rosters
-- the names of the first stand first in the second, in their order, each with any number of nodes
abbrev pub begins : List (List ℕ × ℕ) → List (List ℕ × ℕ) → Bool
begins [] sites = true
begins (known ∷ rest) [] = false
begins (known ∷ rest) (site ∷ sites) = bytes_eq known.0 site.0 && begins rest sites

-- they are equal, site by site, in their names and their numbers of nodes
abbrev pub are_same : List (List ℕ × ℕ) → List (List ℕ × ℕ) → Bool
are_same = pointwise (λ known site. bytes_eq known.0 site.0 && known.1 == site.1)

-- ---- the line
-- The words behind `roster`. The first of them has a colon, as no utility's name has: so a user may have this name.
abbrev pub words_behind : List (List ℕ) → Option (List (List ℕ))
words_behind (first ∷ word ∷ words) =
    if bytes_eq first (codes "roster") && is_some (position is_colon word) then Some (word ∷ words) else None
words_behind _ = None

-- what a line tells of the roster, if it does: the roster that the words name, or that they name none
abbrev pub told_in : List ℕ → Option (Option (List (List ℕ × ℕ)))
told_in line = option_map roster_of (words_in line >>= words_behind)

-- ---- what is known from then on
-- the roster that is told, where it goes on with the one that is known
abbrev pub next_roster : List (List ℕ × ℕ) → Option (List (List ℕ × ℕ)) → Option (List (List ℕ × ℕ))
next_roster known told = told >>= λ sites. if begins known sites then Some sites else None

abbrev pub roster_told : List (List ℕ × ℕ) → Option (Option (List (List ℕ × ℕ))) → List (List ℕ × ℕ)
roster_told known None = known
roster_told known (Some told) = unwrap_or (next_roster known told) known

-- the roster that a site knows once it has answered a line
abbrev pub roster_after : List (List ℕ × ℕ) → List ℕ → List (List ℕ × ℕ)
roster_after known line = roster_told known (told_in line)

-- and once it has answered these, one after another
abbrev pub roster_after_lines : List (List ℕ × ℕ) → List (List ℕ) → List (List ℕ × ℕ)
roster_after_lines known [] = known
roster_after_lines known (line ∷ lines) = roster_after_lines (roster_after known line) lines

-- ---- what is told to one who asks for it
-- a name, a colon and a number of nodes
abbrev pub word_of_site : List ℕ × ℕ → List ℕ
word_of_site site = site.0 ++ 58 ∷ decimal site.1

-- the words that name the roster, parted by blanks
abbrev pub text_of_roster : List (List ℕ × ℕ) → List ℕ
text_of_roster roster = join_by word_of_site (codes " ") roster

-- they in one line
abbrev pub line_of_roster : List (List ℕ × ℕ) → List ℕ
line_of_roster roster = answer_line (text_of_roster roster)
