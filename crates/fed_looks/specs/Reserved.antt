-- What is reserved, in lines and as a JSON array.
use Rattle.std.specs.Prelude.{ℕ, List, [], ◌∷◌, ◌++◌, codes, flat_map, Option, Some, None}
use Rattle.std.specs.List.{join_with_byte}
use Rattle.std.specs.Fmt.{decimal}
use Rattle.serde_json.specs.Data.{Data, string}
use Rattle.fed_stamp.specs.Stamp.{StampValue}
use Rattle.fed_model.specs.declared.windows.Window.{Window}
use Rattle.fed_model.specs.Reservation.{ReservationView}
use Rattle.fed_model.specs.Identifiers.{reservations_in}
use Rattle.fed_model.specs.View.{View}
use Rattle.fed_json.specs.Numbers.{natural_value}
use Rattle.fed_json.specs.Objects.{object_value}
use Rattle.fed_json.specs.Values.{list_value}
use Rattle.fed_qstat.specs.Identifier.{text_of_identifier, text_of_site}
use Rattle.fed_looks.specs.JobObject.{site_data}
use Rattle.fed_looks.specs.JsonLine.{json_line}

-- ---- reservations that stand
-- what is said of a window, if there is one
abbrev pub of_window : {X : Type 0} → (Window → List X) → Option Window → List X
of_window said None = []
of_window said (Some window) = said window

-- nothing, where it is cancelled
abbrev pub if_standing : {X : Type 0} → (Window → List X) → ReservationView → List X
if_standing said None = []
if_standing said (Some latest) = of_window said latest.1

-- what is said of each reservation that stands, in the order of their identifiers
abbrev pub of_standing : {X : Type 0} → (StampValue → Window → List X) → View → List X
of_standing said v = flat_map (λ id. if_standing (said id) (v.reservation id)) (reservations_in v)

-- ---- in lines
abbrev pub line_of_window : List (List ℕ × ℕ) → StampValue → Window → List ℕ
line_of_window roster id w = join_with_byte 32 (text_of_identifier roster id ∷ text_of_site roster w.site
    ∷ decimal w.start ∷ decimal w.end ∷ decimal w.nodes ∷ []) ++ 10 ∷ []

abbrev pub lines_of_reservations : List (List ℕ × ℕ) → View → List ℕ
lines_of_reservations roster v = of_standing (line_of_window roster) v

-- ---- as JSON
abbrev pub window_data : List (List ℕ × ℕ) → StampValue → Window → Data
window_data roster id w = object_value (
    (codes "end", natural_value w.end) ∷
    (codes "id", string (text_of_identifier roster id)) ∷
    (codes "nodes", natural_value w.nodes) ∷
    (codes "site", site_data roster w.site) ∷
    (codes "start", natural_value w.start) ∷
    [])

abbrev pub window_object : List (List ℕ × ℕ) → StampValue → Window → List Data
window_object roster id w = window_data roster id w ∷ []

abbrev pub json_of_reservations : List (List ℕ × ℕ) → View → List ℕ
json_of_reservations roster v = json_line (list_value (of_standing (window_object roster) v))
