-- What the record of a job reads as after a change, and what joined records read as.
use Rattle.std.specs.Ordering.{nat_cmp}
use Rattle.std.proofs.Common.{◌≡◌, ℕ, List}
use Rattle.fed_stamp.specs.Stamp.{StampValue}
use Rattle.fed_stamp.specs.Version.{joined, raised}
use Rattle.fed_tags.specs.Tags.{pair_cmp}
use Rattle.fed_tags.specs.TagLaws.{has_joined}
use Rattle.fed_record.specs.declared.operations.Operation.{Operation}
use Rattle.fed_model.specs.Hold.{kind_cmp}
use Rattle.fed_record.specs.JobRecord.{JobRecordValue, job_reads}
use Rattle.fed_record.specs.JobRecordSteps.{changed_record, joined_record}
use Rattle.fed_theory.specs.JobSteps.{add_to_job, join_jobs, fields_in, stages_in, changed_fields, changed_stages, joined_fields, joined_stages}
use Rattle.fed_record.specs.Operation.{body_of}
use Rattle.fed_record.specs.RecordLaws.{hold_order, hold_exact, site_order, site_exact}
use Rattle.fed_record.proofs.RecordReads.{hold_applied, site_applied}

pub applied_job_reads : (r : JobRecordValue) (s : StampValue) (d : Operation) → job_reads (changed_record r s d) ≡ add_to_job s (body_of d) (job_reads r)
unfolding add_to_job
applied_job_reads r s d = λ i. record {
  fields = changed_fields r.fields s (fields_in (body_of d));
  sites = λ site tag. site_applied r.sites s d site tag i;
  holds = λ kind tag. hold_applied r.holds s d kind tag i;
  stages = changed_stages r.stages s (stages_in (s, body_of d));
  touched = raised r.touched s;
}

pub joined_jobs_read : (r q : JobRecordValue) (v w : List ℕ) → job_reads (joined_record r v q w) ≡ join_jobs v (job_reads r) w (job_reads q)
unfolding join_jobs
joined_jobs_read r q v w = λ i. record {
  fields = joined_fields r.fields q.fields;
  sites = λ site tag. has_joined (pair_cmp nat_cmp) site_order site_exact (site, tag) r.sites q.sites v w i;
  holds = λ kind tag. has_joined (pair_cmp kind_cmp) hold_order hold_exact (kind, tag) r.holds q.holds v w i;
  stages = joined_stages r.stages q.stages;
  touched = joined r.touched q.touched;
}
