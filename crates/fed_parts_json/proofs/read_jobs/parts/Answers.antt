use Rattle.std.proofs.Common.{◌≡◌, ap, sym, ◌∙◌, refl}
use Rattle.std.specs.Prelude.{codes}
use Rattle.fed_lattice.specs.Results.{mapped}
use Rattle.fed_json.specs.Reading.{both}
use Rattle.fed_job_json.specs.Stamps.{stamp_of, version_of}
use Rattle.fed_job_json.specs.Pairs.{holds_of, sites_of}
use Rattle.fed_job_json.specs.Members.{members_value}
use Rattle.fed_job_json.specs.Parts.{job_from}
use Rattle.fed_job_json.proofs.MemberLaws.{found}
use Rattle.fed_job_json.proofs.PartLaws.{parts_read}
use Rattle.fed_parts_json.proofs.read_jobs.parts.Goals as goal

pub returns-in-Ok : goal.returns-in-Ok
returns-in-Ok c =
    let m = c.args.members.now in
    let read = parts_read c.args.format (members_value m) c.read_stamp.result c.fields.result c.in_ok-holds.field-0 c.in_ok-sites.field-0 c.stages.result c.read_version.result
    (c.read_stamp.ensures ∙ found m (codes "id") m.id stamp_of refl refl)
    c.fields.ensures
    (c.in_ok-holds.ensures ∙ found m (codes "holds") m.holds holds_of refl refl)
    (c.in_ok-sites.ensures ∙ found m (codes "sites") m.sites sites_of refl refl)
    c.stages.ensures
    (c.read_version.ensures ∙ found m (codes "touched") m.touched version_of refl refl) in
    let whole : both c.read_stamp.result (both c.fields.result (both (both c.in_ok-holds.field-0 c.in_ok-sites.field-0) (both c.stages.result c.read_version.result))) ≡ c.both-2.result =
    rw (c.both-2.ensures, c.both-others.ensures, c.both.ensures, c.both-stages.ensures, c.both-pairs.ensures) refl in
    sym (ap (mapped (λ q. job_from (record { id = q.0; fields = q.1.0; holds = q.1.1.0.0; sites = q.1.1.0.1; stages = q.1.1.1.0; touched = q.1.1.1.1 }))) (whole ∙ c.in-Ok.is)) ∙ read

pub returns-in-Err : goal.returns-in-Err
returns-in-Err c =
    let m = c.args.members.now in
    let read = parts_read c.args.format (members_value m) c.read_stamp.result c.fields.result c.in_ok-holds.field-0 c.in_ok-sites.field-0 c.stages.result c.read_version.result
    (c.read_stamp.ensures ∙ found m (codes "id") m.id stamp_of refl refl)
    c.fields.ensures
    (c.in_ok-holds.ensures ∙ found m (codes "holds") m.holds holds_of refl refl)
    (c.in_ok-sites.ensures ∙ found m (codes "sites") m.sites sites_of refl refl)
    c.stages.ensures
    (c.read_version.ensures ∙ found m (codes "touched") m.touched version_of refl refl) in
    let whole : both c.read_stamp.result (both c.fields.result (both (both c.in_ok-holds.field-0 c.in_ok-sites.field-0) (both c.stages.result c.read_version.result))) ≡ c.both-2.result =
    rw (c.both-2.ensures, c.both-others.ensures, c.both.ensures, c.both-stages.ensures, c.both-pairs.ensures) refl in
    sym (ap (mapped (λ q. job_from (record { id = q.0; fields = q.1.0; holds = q.1.1.0.0; sites = q.1.1.0.1; stages = q.1.1.1.0; touched = q.1.1.1.1 }))) (whole ∙ c.in-Err.is)) ∙ read
