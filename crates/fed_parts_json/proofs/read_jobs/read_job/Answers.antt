use Rattle.std.proofs.Common.{◌≡◌, true, false, ◌&&◌, Ok, sym, ap, ap₂, ◌∙◌}
use Rattle.fed_lattice.specs.Results.{mapped}
use Rattle.fed_record.specs.CoveredJob.{covers_stamps}
use Rattle.fed_record.specs.JobRecord.{JobRecordValue, job_reads}
use Rattle.fed_job_json.specs.Covers.{covers_tags}
use Rattle.serde_json.specs.View.{view}
use Rattle.fed_job_json.specs.Job.{parts_of}
use Rattle.fed_job_json.specs.Parts.{job_from}
use Rattle.fed_job_json.proofs.JobLaws.{parts_part}
use Rattle.fed_job_json.proofs.JobReads.{misnamed, unread, uncovered, covered}
use Rattle.fed_parts_json.proofs.read_jobs.read_job.Goals as goal

pub returns-in_default : goal.returns-in_default
returns-in_default c = misnamed c.args.format (view c.args.job.now) (sym c.in_default.ensures.named)

pub returns-in-Err : goal.returns-in-Err
returns-in-Err c =
    let read = sym (ap (mapped job_from) c.in-Err.is) ∙ c.in_ok-read.ensures ∙ ap (parts_of c.args.format) c.in-Some.ensures.members in
    unread c.args.format (view c.args.job.now) c.in-Err.flaw (sym c.in-Some.ensures.named) read

pub returns-then-not-has_covered_tags : goal.returns-then-not-has_covered_tags
returns-then-not-has_covered_tags c =
    let read = sym (ap (mapped job_from) c.in-Ok.is) ∙ c.in_ok-read.ensures ∙ ap (parts_of c.args.format) c.in-Some.ensures.members in
    let tags : covers_tags (job_from c.in-Ok.read) ≡ false = sym c.has_covered_tags.ensures ∙ c.if-not-has_covered_tags.true in
    uncovered c.args.format (view c.args.job.now) (job_from c.in-Ok.read) (sym c.in-Some.ensures.named) read (ap (λ b. b && covers_stamps (job_reads (job_from c.in-Ok.read).1)) tags)

pub returns-then-not-has_covered_stamps : goal.returns-then-not-has_covered_stamps
returns-then-not-has_covered_stamps c =
    let read = sym (ap (mapped job_from) c.in-Ok.is) ∙ c.in_ok-read.ensures ∙ ap (parts_of c.args.format) c.in-Some.ensures.members in
    let tags : covers_tags (job_from c.in-Ok.read) ≡ true = sym c.has_covered_tags.ensures ∙ c.if-not-has_covered_tags.false in
    let stamps : covers_stamps (job_reads (job_from c.in-Ok.read).1) ≡ false =
    ap (λ (r : JobRecordValue). covers_stamps (job_reads r)) (sym c.in_ok-record.ensures) ∙ sym c.has_covered_stamps.ensures ∙ c.if-not-has_covered_stamps.true in
    uncovered c.args.format (view c.args.job.now) (job_from c.in-Ok.read) (sym c.in-Some.ensures.named) read (ap₂ (λ a b. a && b) tags stamps)

pub record-requires-clause-holds : goal.record-requires-clause-holds
record-requires-clause-holds c =
    let read = sym (ap (mapped job_from) c.in-Ok.is) ∙ c.in_ok-read.ensures ∙ ap (parts_of c.args.format) c.in-Some.ensures.members in
    ((parts_part c.args.format).takes (view c.args.job.now) (job_from c.in-Ok.read) (sym read)).1.1.1.0.0

pub record-requires-clause-sites : goal.record-requires-clause-sites
record-requires-clause-sites c =
    let read = sym (ap (mapped job_from) c.in-Ok.is) ∙ c.in_ok-read.ensures ∙ ap (parts_of c.args.format) c.in-Some.ensures.members in
    ((parts_part c.args.format).takes (view c.args.job.now) (job_from c.in-Ok.read) (sym read)).1.1.1.0.1

pub returns : goal.returns
returns c =
    let read = sym (ap (mapped job_from) c.in-Ok.is) ∙ c.in_ok-read.ensures ∙ ap (parts_of c.args.format) c.in-Some.ensures.members in
    let tags : covers_tags (job_from c.in-Ok.read) ≡ true = sym c.has_covered_tags.ensures ∙ c.if-not-has_covered_tags.false in
    let stamps : covers_stamps (job_reads (job_from c.in-Ok.read).1) ≡ true =
    ap (λ (r : JobRecordValue). covers_stamps (job_reads r)) (sym c.in_ok-record.ensures) ∙ sym c.has_covered_stamps.ensures ∙ c.if-not-has_covered_stamps.false in
    ap (λ r. Ok (c.in-Ok.read.id, r)) c.in_ok-record.ensures
    ∙ covered c.args.format (view c.args.job.now) (job_from c.in-Ok.read) (sym c.in-Some.ensures.named) read (ap₂ (λ a b. a && b) tags stamps)
