-- The JSON object of a job's members.
use Rattle.std.specs.Prelude.{[], ◌∷◌, ◌++◌, codes, Option, Some, None}
use Rattle.std.specs.Borrow.{Bor}
use Rattle.serde_json.specs.Data.{Data}
use Rattle.serde_json.specs.View.{view}
use Rattle.serde_json.specs.declared.value.Value.{Value}
use Rattle.fed_json.specs.Objects.{Named, object_value}
use Rattle.fed_job_json.specs.declared.members.JobMembers.{JobMembers}

abbrev pub account_named : Option (Bor Value) → Named
account_named None = []
account_named (Some v) = (codes "account", view v.now) ∷ []

abbrev pub others_named : JobMembers → Named
others_named m =
    (codes "deleted", view m.deleted.now) ∷
    (codes "grant", view m.grant.now) ∷
    (codes "holds", view m.holds.now) ∷
    (codes "id", view m.id.now) ∷
    (codes "limit", view m.limit.now) ∷
    (codes "name", view m.name.now) ∷
    (codes "nodes", view m.nodes.now) ∷
    (codes "owner", view m.owner.now) ∷
    (codes "priority", view m.priority.now) ∷
    (codes "progress", view m.progress.now) ∷
    (codes "sites", view m.sites.now) ∷
    (codes "touched", view m.touched.now) ∷
    []

unfoldable pub members_value : JobMembers → Data
members_value m = object_value (account_named m.account ++ others_named m)
