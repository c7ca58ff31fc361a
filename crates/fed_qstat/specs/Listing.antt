-- Which jobs a listing shows, and in which order. All is computed of what is read of a board.
use Rattle.std.specs.Prelude.{ℕ, Bool, true, ◌&&◌, List, [], ◌∷◌, filter, flat_map, is_some, if◌then◌else◌}
use Rattle.std.specs.List.{list_any}
use Rattle.fed_stamp.specs.Stamp.{StampValue, same_stamp}
use Rattle.fed_model.specs.JobView.{JobView}
use Rattle.fed_model.specs.Letter.{is_submitted, letter}
use Rattle.fed_model.specs.Identifiers.{jobs_in}
use Rattle.fed_model.specs.View.{View}

-- a job is asked for where it is named; where none is named all are
abbrev pub is_asked : List StampValue → StampValue → Bool
is_asked [] job = true
is_asked (id ∷ ids) job = list_any (same_stamp job) (id ∷ ids)

-- the jobs that a listing shows: those that are asked for and aren't gone
abbrev pub is_shown : View → List StampValue → StampValue → Bool
is_shown v asked job = is_asked asked job && is_some (letter (v.job job))

-- the lines of a job that is there and isn't gone
abbrev pub shown_text : (StampValue → JobView → List ℕ) → StampValue → JobView → List ℕ
shown_text lines id j = if is_submitted j && is_some (letter j) then lines id j else []

-- the lines of these jobs
abbrev pub listing : (StampValue → JobView → List ℕ) → View → List StampValue → List ℕ
listing lines v asked = flat_map (λ job. lines job (v.job job)) (filter (is_shown v asked) (jobs_in v))
