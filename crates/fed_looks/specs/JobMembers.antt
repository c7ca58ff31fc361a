-- The members of a job's object, put in one after another.
use Rattle.std.specs.Prelude.{ℕ, List, codes}
use Rattle.serde_json.specs.Data.{boolean, string, Members, put}
use Rattle.fed_stamp.specs.Stamp.{StampValue}
use Rattle.fed_model.specs.declared.holds.HoldKind.TheVariants.{User, Operator, System}
use Rattle.fed_model.specs.Account.{text_of}
use Rattle.fed_model.specs.JobView.{JobView}
use Rattle.fed_model.specs.Letter.{has_hold, letter}
use Rattle.fed_json.specs.Numbers.{integer_value, natural_value}
use Rattle.fed_qstat.specs.Identifier.{text_of_identifier}
use Rattle.fed_looks.specs.JobObject.{begun_data, field_data, finished_data, grant_data, kinds_data, letter_data, sites_data}

unfoldable pub with_names : List (List ℕ × ℕ) → StampValue → JobView → Members → Members
with_names roster id j ms = put (codes "owner") (field_data string j.fields.owner) (put (codes "name") (field_data string j.fields.name)
    (put (codes "id") (string (text_of_identifier roster id))
    (put (codes "account") (field_data (λ account. string (text_of account)) j.fields.account) ms)))

unfoldable pub with_numbers : JobView → Members → Members
with_numbers j ms = put (codes "priority") (field_data integer_value j.fields.priority)
    (put (codes "nodes") (field_data natural_value j.fields.nodes) (put (codes "limit") (field_data natural_value j.fields.limit) ms))

unfoldable pub with_stages : List (List ℕ × ℕ) → JobView → Members → Members
with_stages roster j ms = put (codes "grant") (grant_data roster j.stages.grant)
    (put (codes "finished") (finished_data j.stages.finished)
    (put (codes "deleted") (boolean j.stages.deleted) (put (codes "begun") (begun_data roster j.stages.begun) ms)))

unfoldable pub with_sets : List (List ℕ × ℕ) → JobView → Members → Members
with_sets roster j ms = put (codes "sites") (sites_data roster j) (put (codes "letter") (letter_data (letter j))
    (put (codes "holds") (kinds_data (has_hold j User) (has_hold j Operator) (has_hold j System)) ms))
