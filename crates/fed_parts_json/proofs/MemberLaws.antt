-- The members of a job, put in one after another, are those of its value.
use Rattle.std.proofs.Common.{◌≡◌, refl}
use Rattle.std.specs.Prelude.{codes}
use Rattle.serde_json.specs.Data.{object, no_members, put}
use Rattle.fed_record.specs.JobRecord.{job_reads}
use Rattle.fed_job_json.specs.declared.formats.Format.TheVariants.{Two}
use Rattle.fed_job_json.specs.Stamps.{stamp_value, version_value}
use Rattle.fed_job_json.specs.Job.{Job, job_members, job_value}
use Rattle.fed_parts_json.specs.Members.{sites_to_owner, nodes_to_limit, holds_to_account}

pub members_are : (j : Job) → object (holds_to_account j.1 (put (codes "id") (stamp_value j.0) (nodes_to_limit j.1 (sites_to_owner j.1 (put (codes "touched") (version_value (job_reads j.1).touched) no_members))))) ≡ job_value Two j
unfolding job_members sites_to_owner nodes_to_limit holds_to_account
members_are (id, r) = refl
