use Rattle.std.proofs.Common.{◌≡◌, Bool, Option, ap, sym, ◌∙◌, refl}
use Rattle.std.specs.Prelude.{codes}
use Rattle.fed_lattice.specs.Results.{mapped}
use Rattle.fed_json.specs.Reading.{both}
use Rattle.fed_json.specs.Values.{truth_of}
use Rattle.fed_job_json.specs.Grants.{grant_of}
use Rattle.fed_job_json.specs.Progress.{progress_of}
use Rattle.fed_job_json.specs.Members.{members_value}
use Rattle.fed_model.specs.JobView.{JobStages}
use Rattle.fed_model.specs.declared.grants.GrantStage.{GrantStage}
use Rattle.fed_record.specs.declared.job_readers.Progress.{Progress}
use Rattle.fed_job_json.proofs.MemberLaws.{found}
use Rattle.fed_job_json.proofs.PartLaws.{stages_read}
use Rattle.fed_parts_json.proofs.stages.stages.Goals as goal

abbrev made : Bool × (Option GrantStage × Progress) → JobStages
made q = record { deleted = q.0; grant = q.1.0; begun = q.1.1.begun; finished = q.1.1.finished }

pub returns-in-Ok : goal.returns-in-Ok
returns-in-Ok c =
    let m = c.args.members.now in
    let read = stages_read c.args.format (members_value m) c.truth.result c.grant.result c.progress.result
    (c.truth.ensures ∙ found m (codes "deleted") m.deleted truth_of refl refl)
    (c.grant.ensures ∙ found m (codes "grant") m.grant (grant_of c.args.format) refl refl)
    (c.progress.ensures ∙ found m (codes "progress") m.progress progress_of refl refl) in
    let whole : both c.truth.result (both c.grant.result c.progress.result) ≡ c.both.result = rw (c.both.ensures, c.both-others.ensures) refl in
    sym (ap (mapped made) (whole ∙ c.in-Ok.is)) ∙ read

pub returns-in-Err : goal.returns-in-Err
returns-in-Err c =
    let m = c.args.members.now in
    let read = stages_read c.args.format (members_value m) c.truth.result c.grant.result c.progress.result
    (c.truth.ensures ∙ found m (codes "deleted") m.deleted truth_of refl refl)
    (c.grant.ensures ∙ found m (codes "grant") m.grant (grant_of c.args.format) refl refl)
    (c.progress.ensures ∙ found m (codes "progress") m.progress progress_of refl refl) in
    let whole : both c.truth.result (both c.grant.result c.progress.result) ≡ c.both.result = rw (c.both.ensures, c.both-others.ensures) refl in
    sym (ap (mapped made) (whole ∙ c.in-Err.is)) ∙ read
