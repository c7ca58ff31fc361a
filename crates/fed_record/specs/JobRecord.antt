-- The record of a job, and what is read of it.
use Rattle.std.specs.Ordering.{nat_cmp}
use Rattle.fed_tags.specs.Tags.{pair_cmp, has}
use Rattle.fed_model.specs.Hold.{kind_cmp}
use Rattle.fed_model.specs.JobView.{JobFields, JobStages, JobView}
use Rattle.fed_record.specs.Record.{RecordValue}

abbrev pub JobRecordValue : Type 0
JobRecordValue = RecordValue JobFields JobStages

-- a pair is live where the record keeps it
abbrev pub job_reads : JobRecordValue → JobView
job_reads r = record {
  fields = r.fields;
  sites = λ site tag. has (pair_cmp nat_cmp) r.sites (site, tag);
  holds = λ kind tag. has (pair_cmp kind_cmp) r.holds (kind, tag);
  stages = r.stages;
  touched = r.touched;
}
