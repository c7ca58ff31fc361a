-- The record of a job, by what is read of it.
use Rattle.fed_record.specs.JobParts.{fields_set}
use Rattle.fed_job_json.specs.declared.parts.ReadJob.{ReadJob}
use Rattle.fed_job_json.specs.Job.{Job}

abbrev pub job_from : ReadJob → Job
job_from j = (
  j.id,
  record {
    fields = fields_set j.fields;
    holds = j.holds.items;
    sites = j.sites.items;
    stages = j.stages;
    touched = j.touched;
  },
)
