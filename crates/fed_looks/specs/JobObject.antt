-- A job as a JSON object, with names in place of numbers, and its keys in the order of their bytes.
use Rattle.std.specs.Prelude.{ℕ, Bool, List, [], ◌∷◌, ◌++◌, codes, flat_map, map, if◌then◌else◌, Option, Some, None}
use Rattle.serde_json.specs.Data.{Data, boolean, null, string}
use Rattle.fed_stamp.specs.Stamp.{StampValue}
use Rattle.fed_model.specs.declared.grants.GrantStage.{GrantStage}
use Rattle.fed_model.specs.declared.holds.HoldKind.TheVariants.{User, Operator, System}
use Rattle.fed_model.specs.declared.letters.Letter.{Letter}
use Rattle.fed_model.specs.declared.beginnings.Beginning.{Beginning}
use Rattle.fed_model.specs.declared.beginnings.Ending.{Ending}
use Rattle.fed_model.specs.Account.{text_of}
use Rattle.fed_model.specs.Grant.{holder_of, term_of}
use Rattle.fed_model.specs.JobView.{JobView}
use Rattle.fed_model.specs.Letter.{has_hold, is_submitted, letter}
use Rattle.fed_model.specs.Identifiers.{jobs_in}
use Rattle.fed_model.specs.View.{View}
use Rattle.fed_json.specs.Numbers.{integer_value, natural_value}
use Rattle.fed_json.specs.Objects.{Named, object_value}
use Rattle.fed_json.specs.Values.{list_value}
use Rattle.fed_qstat.specs.Identifier.{text_of_identifier, text_of_site}
use Rattle.fed_qstat.specs.JobText.{sign_of_letter, sites_of}
use Rattle.fed_looks.specs.JsonLine.{json_line}

-- the value of a field; a field of a job that is submitted has one
abbrev pub field_data : {T : Type 0} → (T → Data) → Option (StampValue × T) → Data
field_data value None = null
field_data value (Some latest) = value latest.1

-- a job that is gone has no letter
abbrev pub letter_data : Option Letter → Data
letter_data None = null
letter_data (Some sign) = string (sign_of_letter sign)

abbrev pub site_data : List (List ℕ × ℕ) → ℕ → Data
site_data roster site = string (text_of_site roster site)

-- the site of a Begin with what the Begin says
abbrev pub begun_data : List (List ℕ × ℕ) → Option (StampValue × Beginning) → Data
begun_data roster None = null
begun_data roster (Some begun) = object_value (
    (codes "end", natural_value begun.1.end) ∷
    (codes "moment", natural_value begun.1.moment) ∷
    (codes "nodes", natural_value begun.1.nodes) ∷
    (codes "site", site_data roster begun.0.site) ∷
    [])

abbrev pub finished_data : Option (StampValue × Ending) → Data
finished_data None = null
finished_data (Some finished) = object_value (
    (codes "moment", natural_value finished.1.moment) ∷
    (codes "status", natural_value finished.1.status) ∷
    [])

abbrev pub holder_data : List (List ℕ × ℕ) → Option ℕ → Data
holder_data roster None = null
holder_data roster (Some site) = site_data roster site

-- a grant that is handed back has no site
abbrev pub grant_data : List (List ℕ × ℕ) → Option GrantStage → Data
grant_data roster None = null
grant_data roster (Some stage) = object_value (
    (codes "site", holder_data roster (holder_of stage)) ∷
    (codes "term", natural_value (term_of stage)) ∷
    [])

-- the sign of a kind of hold, where it is present
abbrev pub hold_data : Bool → List ℕ → List Data
hold_data present sign = if present then string sign ∷ [] else []

abbrev pub kinds_data : Bool → Bool → Bool → Data
kinds_data user operator system =
    list_value (hold_data user (codes "u") ++ hold_data operator (codes "o") ++ hold_data system (codes "s"))

abbrev pub sites_data : List (List ℕ × ℕ) → JobView → Data
sites_data roster j = list_value (map (site_data roster) (sites_of j))

unfoldable pub job_members : List (List ℕ × ℕ) → StampValue → JobView → Named
job_members roster id j =
    (codes "account", field_data (λ account. string (text_of account)) j.fields.account) ∷
    (codes "begun", begun_data roster j.stages.begun) ∷
    (codes "deleted", boolean j.stages.deleted) ∷
    (codes "finished", finished_data j.stages.finished) ∷
    (codes "grant", grant_data roster j.stages.grant) ∷
    (codes "holds", kinds_data (has_hold j User) (has_hold j Operator) (has_hold j System)) ∷
    (codes "id", string (text_of_identifier roster id)) ∷
    (codes "letter", letter_data (letter j)) ∷
    (codes "limit", field_data natural_value j.fields.limit) ∷
    (codes "name", field_data string j.fields.name) ∷
    (codes "nodes", field_data natural_value j.fields.nodes) ∷
    (codes "owner", field_data string j.fields.owner) ∷
    (codes "priority", field_data integer_value j.fields.priority) ∷
    (codes "sites", sites_data roster j) ∷
    []

abbrev pub job_data : List (List ℕ × ℕ) → StampValue → JobView → Data
job_data roster id j = object_value (job_members roster id j)

-- its line, or nothing where there is no such job
abbrev pub known_line : List (List ℕ × ℕ) → StampValue → JobView → List ℕ
known_line roster id j = if is_submitted j then json_line (job_data roster id j) else []

-- the jobs that are asked for: where none is named, all, in the order of their stamps
abbrev pub asked_jobs : View → List StampValue → List StampValue
asked_jobs v [] = jobs_in v
asked_jobs v (job ∷ jobs) = job ∷ jobs

abbrev pub lines_of_jobs : List (List ℕ × ℕ) → View → List StampValue → List ℕ
lines_of_jobs roster v jobs = flat_map (λ job. known_line roster job (v.job job)) jobs

abbrev pub json_of_jobs : List (List ℕ × ℕ) → View → List StampValue → List ℕ
json_of_jobs roster v asked = lines_of_jobs roster v (asked_jobs v asked)

-- ---- among the members of other looks
-- its object, or none where there is no such job
abbrev pub known_object : List (List ℕ × ℕ) → StampValue → JobView → List Data
known_object roster id j = if is_submitted j then job_data roster id j ∷ [] else []

-- the objects of these jobs, as their lines have them
abbrev pub objects_of_jobs : List (List ℕ × ℕ) → View → List StampValue → List Data
objects_of_jobs roster v jobs = flat_map (λ job. known_object roster job (v.job job)) jobs
