-- The first entry of a journal: the format, the site and the roster. In formats 1 and 3 the site had nothing before the
-- entries behind it; in formats 2 and 4 the next entry is what it knew.
use Rattle.std.specs.Prelude.{ℕ, Bool, true, false, List, ◌∷◌, ◌++◌, codes, Option, Some, None, option_map, if◌then◌else◌}
use Rattle.std.specs.Str.{bytes_eq}
use Rattle.fed_words.specs.Site.{site_named}
use Rattle.fed_script.specs.Forms.{◌>>=◌}
use Rattle.fed_script.specs.Line.{words_in}
use Rattle.fed_script.specs.Rosters.{roster_of}
use Rattle.fed_qstat.specs.Identifier.{text_of_site}
use Rattle.fed_site.specs.Rosters.{text_of_roster}
use Rattle.fed_home.specs.declared.headers.JournalFormat.{JournalFormat}
use Rattle.fed_home.specs.declared.headers.JournalFormat.TheVariants.{One, Two, Three, Four}
use Rattle.fed_home.specs.declared.headers.Header.{Header}

-- the format of this version
abbrev pub format_of : List ℕ → Option JournalFormat
format_of version =
    if bytes_eq version (codes "1") then Some One
    else (if bytes_eq version (codes "2") then Some Two
    else (if bytes_eq version (codes "3") then Some Three
    else (if bytes_eq version (codes "4") then Some Four else None)))

-- whether the entry behind the header is what the site knew
abbrev pub is_compacted : JournalFormat → Bool
is_compacted One = false
is_compacted Two = true
is_compacted Three = false
is_compacted Four = true

-- the site of this name, of the roster that the words name
abbrev pub site_among : JournalFormat → List ℕ → List (List ℕ) → Option Header
site_among format name sites =
    roster_of sites >>= λ roster. option_map (λ site. record { roster = roster; site = site; format = format }) (site_named roster name)

-- what the words say: the program, the version of the format, the site's name, and the roster
abbrev pub header_of : List (List ℕ) → Option Header
header_of (program ∷ version ∷ name ∷ sites) =
    if bytes_eq program (codes "nettlebeam") then (format_of version >>= λ format. site_among format name sites) else None
header_of _ = None

-- what a line says, if it can be read
abbrev pub header_in : List ℕ → Option Header
header_in line = words_in line >>= header_of

-- the header of a compacted journal: format 4, the site's name, and the roster
abbrev pub header_text : List (List ℕ × ℕ) → ℕ → List ℕ
header_text roster here = codes "nettlebeam 4 " ++ text_of_site roster here ++ 32 ∷ text_of_roster roster
