use Rattle.std.proofs.Common.{map}
use Rattle.std.proofs.lemmas.List.{length-map}
use Rattle.serde_json.specs.View.{view}
use Rattle.fed_job_json.proofs.GrantLaws.{stage_default}
use Rattle.fed_job_json.proofs.grants.stage_of_two.Goals as goal

pub returns-else-values-eq3 : goal.returns-else-values-eq3
returns-else-values-eq3 c =
    let many = length-map c.in_ok-values.values.now view in
    stage_default (view c.args.value.now) (map view c.in_ok-values.values.now) c.in_ok-values.ensures (rw many c.if-values-eq3.false) (rw many c.if-values-eq4.false)
