use Rattle.std.proofs.Common.{map}
use Rattle.std.proofs.lemmas.List.{length-map}
use Rattle.serde_json.specs.View.{view}
use Rattle.fed_job_json.proofs.ProgressLaws.{done_default}
use Rattle.fed_job_json.proofs.progress.done.Goals as goal

pub returns-else-values-eq8 : goal.returns-else-values-eq8
returns-else-values-eq8 c =
    let many = length-map c.in_ok-values.values.now view in
    done_default (view c.args.value.now) (map view c.in_ok-values.values.now) c.in_ok-values.ensures (rw many c.if-values-eq5.false) (rw many c.if-values-eq8.false)
