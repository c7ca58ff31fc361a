-- The members of a job, put in one after another, the last name first.
use Rattle.std.specs.Prelude.{codes}
use Rattle.serde_json.specs.Data.{boolean, string, Members, put}
use Rattle.fed_record.specs.JobRecord.{job_reads, JobRecordValue}
use Rattle.fed_json.specs.Numbers.{natural_value, integer_value}
use Rattle.fed_job_json.specs.declared.formats.Format.TheVariants.{Two}
use Rattle.fed_job_json.specs.Fields.{field_value, account_value}
use Rattle.fed_job_json.specs.Grants.{grant_value}
use Rattle.fed_job_json.specs.Progress.{progress_value}
use Rattle.fed_job_json.specs.Pairs.{holds_value, sites_value}

unfoldable pub sites_to_owner : JobRecordValue → Members → Members
sites_to_owner r ms = put (codes "owner") (field_value string (job_reads r).fields.owner) (put (codes "priority") (field_value integer_value (job_reads r).fields.priority) (put (codes "progress") (progress_value ((job_reads r).stages.begun, (job_reads r).stages.finished)) (put (codes "sites") (sites_value r.sites) ms)))

unfoldable pub nodes_to_limit : JobRecordValue → Members → Members
nodes_to_limit r ms = put (codes "limit") (field_value natural_value (job_reads r).fields.limit) (put (codes "name") (field_value string (job_reads r).fields.name) (put (codes "nodes") (field_value natural_value (job_reads r).fields.nodes) ms))

unfoldable pub holds_to_account : JobRecordValue → Members → Members
holds_to_account r ms = put (codes "account") (field_value account_value (job_reads r).fields.account) (put (codes "deleted") (boolean (job_reads r).stages.deleted) (put (codes "grant") (grant_value Two (job_reads r).stages.grant) (put (codes "holds") (holds_value r.holds) ms)))
