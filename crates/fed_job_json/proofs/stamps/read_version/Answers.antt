use Rattle.std.proofs.Common.{◌≡◌, length, map, ◌∙◌}
use Rattle.std.proofs.lemmas.List.{length-map}
use Rattle.serde_json.specs.View.{view}
use Rattle.fed_job_json.proofs.VersionReads.{version_read}
use Rattle.fed_job_json.proofs.stamps.read_version.Goals as goal

pub returns : goal.returns
returns c =
    let many : length c.in_ok-values.values.now ≡ 16 = c.if-values-ne-SITES.false in
    rw c.ok_or.ensures.value (version_read (view c.args.value.now) (map view c.in_ok-values.values.now) c.in_ok-counters.field-0 c.new.result c.in_ok-values.ensures (length-map c.in_ok-values.values.now view ∙ many) c.in_ok-counters.ensures c.new.ensures.accepted.1 c.new.ensures.same)
