-- What a site has seen of the others, and what they are known to have seen of it.
use Rattle.std.specs.Prelude.{ℕ, List, [], ◌∷◌, ◌++◌, codes, flat_map, length, map, nat_eq, if◌then◌else◌}
use Rattle.std.specs.List.{join_with_byte, range_with_len}
use Rattle.std.specs.Fmt.{decimal}
use Rattle.serde_json.specs.Data.{Data}
use Rattle.fed_stamp.specs.Version.{counter_of}
use Rattle.fed_json.specs.Numbers.{natural_value}
use Rattle.fed_json.specs.Objects.{object_value}
use Rattle.fed_json.specs.Values.{list_value}
use Rattle.fed_replica.specs.State.{State}
use Rattle.fed_qstat.specs.Identifier.{text_of_site}
use Rattle.fed_looks.specs.JobObject.{site_data}
use Rattle.fed_looks.specs.JsonLine.{json_line}

-- the counter of the state's own site that a site is known to have seen, by the version that was heard from it; a site has
-- seen all of its own
abbrev pub counter_known : State → ℕ → ℕ
counter_known s site = if nat_eq site s.site then counter_of s.view.version site else counter_of (s.heard site) s.site

abbrev pub line_of_seen : List (List ℕ × ℕ) → State → ℕ → List ℕ
line_of_seen roster s site = join_with_byte 32 (text_of_site roster site
    ∷ decimal (counter_of s.view.version site) ∷ decimal (counter_known s site) ∷ []) ++ 10 ∷ []

-- a line for each site of the roster: its name, the counter seen of it, and the counter that it is known to have seen
abbrev pub lines_of_seen : List (List ℕ × ℕ) → State → List ℕ
lines_of_seen roster s = flat_map (line_of_seen roster s) (range_with_len 0 (length roster))

-- the same as JSON: an object for each site
abbrev pub seen_data : List (List ℕ × ℕ) → State → ℕ → Data
seen_data roster s site = object_value (
    (codes "known", natural_value (counter_of s.view.version site)) ∷
    (codes "site", site_data roster site) ∷
    (codes "told", natural_value (counter_known s site)) ∷
    [])

abbrev pub json_of_seen : List (List ℕ × ℕ) → State → List ℕ
json_of_seen roster s = json_line (list_value (map (seen_data roster s) (range_with_len 0 (length roster))))
