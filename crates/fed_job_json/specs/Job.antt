-- Jobs as JSON values: an identifier and a record.
use Rattle.std.specs.Prelude.{◌≡◌, ℕ, true, List, [], ◌∷◌, ◌++◌, codes, if◌then◌else◌, Option, Some, None, Err}
use Rattle.std.specs.Ordering.{nat_cmp}
use Rattle.serde_json.specs.Data.{Data, boolean, string}
use Rattle.fed_stamp.specs.Stamp.{StampValue}
use Rattle.fed_lattice.specs.Results.{◌>>=◌, mapped}
use Rattle.fed_model.specs.Hold.{kind_cmp}
use Rattle.fed_model.specs.JobView.{JobFields, JobStages}
use Rattle.fed_record.specs.JobRecord.{JobRecordValue, job_reads}
use Rattle.fed_json.specs.declared.flaws.Flaw.TheVariants.{Shape}
use Rattle.fed_json.specs.Reading.{Reading, both, where_true}
use Rattle.fed_json.specs.Numbers.{natural_value, integer_value}
use Rattle.fed_model.specs.Ranges.{IsFrom, IsStamp, IsSite, IsName, IsPriority, IsAccount}
use Rattle.fed_json.specs.Values.{truth_of}
use Rattle.fed_json.specs.Objects.{Named, object_value, has_names, member_of}
use Rattle.fed_stamp.specs.declared.rosters.TheConstants.{MAX_NODES}
use Rattle.fed_model.specs.declared.limits.TheConstants.{MAX_LIMIT}
use Rattle.fed_model.specs.declared.holds.HoldKind.{HoldKind}
use Rattle.fed_job_json.specs.declared.formats.Format.{Format}
use Rattle.fed_job_json.specs.declared.formats.Format.TheVariants.{One, Two}
use Rattle.fed_job_json.specs.Stamps.{stamp_value, stamp_of, version_value, version_of, IsVersion}
use Rattle.fed_job_json.specs.Fields.{field_value, field_of, IsField, name_of, priority_of, nodes_of, limit_of, account_value, account_in}
use Rattle.fed_job_json.specs.Grants.{grant_value, grant_of, IsGrant}
use Rattle.fed_job_json.specs.Progress.{progress_value, progress_of, IsProgress}
use Rattle.fed_job_json.specs.Pairs.{holds_value, holds_of, sites_value, sites_of, ArePairs}
use Rattle.fed_job_json.specs.Covers.{covers_job}

abbrev pub Job : Type 0
Job = StampValue × JobRecordValue

-- ---- its value

-- format 1 has no account
abbrev pub account_members : Format → Option (StampValue × Option (List ℕ)) → Named
account_members One account = []
account_members Two account = (codes "account", field_value account_value account) ∷ []

abbrev pub other_members : Format → Job → Named
other_members format (id, r) =
    (codes "deleted", boolean (job_reads r).stages.deleted) ∷
    (codes "grant", grant_value format (job_reads r).stages.grant) ∷
    (codes "holds", holds_value r.holds) ∷
    (codes "id", stamp_value id) ∷
    (codes "limit", field_value natural_value (job_reads r).fields.limit) ∷
    (codes "name", field_value string (job_reads r).fields.name) ∷
    (codes "nodes", field_value natural_value (job_reads r).fields.nodes) ∷
    (codes "owner", field_value string (job_reads r).fields.owner) ∷
    (codes "priority", field_value integer_value (job_reads r).fields.priority) ∷
    (codes "progress", progress_value ((job_reads r).stages.begun, (job_reads r).stages.finished)) ∷
    (codes "sites", sites_value r.sites) ∷
    (codes "touched", version_value (job_reads r).touched) ∷
    []

unfoldable pub job_members : Format → Job → Named
job_members format j = account_members format (job_reads j.1).fields.account ++ other_members format j

abbrev pub job_value : Format → Job → Data
job_value format j = object_value (job_members format j)

-- ---- what is in range

-- in format 1 the account is the empty one that the submission set
abbrev pub IsAccountIn : Format → StampValue → Option (StampValue × Option (List ℕ)) → Type 0
IsAccountIn One id account = account ≡ Some (id, None)
IsAccountIn Two id account = IsField IsAccount account

pub record IsJobIn (format : Format) (stamp : StampValue) (r : JobRecordValue) : Type 0 where
  pub id : IsStamp stamp
  pub owner : IsField IsName (job_reads r).fields.owner
  pub name : IsField IsName (job_reads r).fields.name
  pub priority : IsField IsPriority (job_reads r).fields.priority
  pub nodes : IsField (IsFrom 1 MAX_NODES) (job_reads r).fields.nodes
  pub limit : IsField (IsFrom 1 MAX_LIMIT) (job_reads r).fields.limit
  pub account : IsAccountIn format stamp (job_reads r).fields.account
  pub holds : ArePairs (λ _. Unit {0}) kind_cmp r.holds
  pub sites : ArePairs IsSite nat_cmp r.sites
  pub grant : IsGrant format (job_reads r).stages.grant
  pub progress : IsProgress ((job_reads r).stages.begun, (job_reads r).stages.finished)
  pub touched : IsVersion (job_reads r).touched
  pub covered : covers_job (stamp, r) ≡ true

abbrev pub IsJob : Format → Job → Type 0
IsJob format j = IsJobIn format j.0 j.1

-- ---- how it is read

abbrev pub account_of : Format → Data → Reading (Option (StampValue × Option (List ℕ)))
account_of One d = mapped (λ id. Some (id, None)) (member_of (codes "id") stamp_of d)
account_of Two d = member_of (codes "account") (field_of account_in) d

abbrev pub Names : Type 0
Names = Option (StampValue × List ℕ) × Option (StampValue × List ℕ)

abbrev pub names_of : Data → Reading Names
names_of d = both (member_of (codes "owner") (field_of name_of) d) (member_of (codes "name") (field_of name_of) d)

abbrev pub Numbers : Type 0
Numbers = Option (StampValue × ℕ) × Option (StampValue × ℕ)

abbrev pub numbers_of : Data → Reading Numbers
numbers_of d = both (member_of (codes "nodes") (field_of nodes_of) d) (member_of (codes "limit") (field_of limit_of) d)

unfoldable pub fields_of : Format → Data → Reading JobFields
fields_of format d = mapped (λ p. record {
  owner = p.0.0;
  name = p.0.1;
  priority = p.1.0;
  nodes = p.1.1.0.0;
  limit = p.1.1.0.1;
  account = p.1.1.1;
})
    (both (names_of d) (both (member_of (codes "priority") (field_of priority_of) d) (both (numbers_of d) (account_of format d))))

unfoldable pub pairs_of : Data → Reading (List (HoldKind × StampValue) × List (ℕ × StampValue))
pairs_of d = both (member_of (codes "holds") holds_of d) (member_of (codes "sites") sites_of d)

unfoldable pub stages_of : Format → Data → Reading JobStages
stages_of format d = mapped (λ p. record {
  deleted = p.0;
  grant = p.1.0;
  begun = p.1.1.0;
  finished = p.1.1.1;
})
    (both (member_of (codes "deleted") truth_of d) (both (member_of (codes "grant") (grant_of format) d) (member_of (codes "progress") progress_of d)))

abbrev pub job_names : Format → List (List ℕ)
job_names One = codes "deleted" ∷ codes "grant" ∷ codes "holds" ∷ codes "id" ∷ codes "limit" ∷ codes "name" ∷ codes "nodes" ∷ codes "owner" ∷ codes "priority" ∷ codes "progress" ∷ codes "sites" ∷ codes "touched" ∷ []
job_names Two = codes "account" ∷ codes "deleted" ∷ codes "grant" ∷ codes "holds" ∷ codes "id" ∷ codes "limit" ∷ codes "name" ∷ codes "nodes" ∷ codes "owner" ∷ codes "priority" ∷ codes "progress" ∷ codes "sites" ∷ codes "touched" ∷ []

unfoldable pub parts_of : Format → Data → Reading Job
parts_of format d = mapped (λ p. (
  p.0,
  record {
    fields = p.1.0;
    holds = p.1.1.0.0;
    sites = p.1.1.0.1;
    stages = p.1.1.1.0;
    touched = p.1.1.1.1;
  },
))
    (both (member_of (codes "id") stamp_of d) (both (fields_of format d) (both (pairs_of d) (both (stages_of format d) (member_of (codes "touched") version_of d)))))

unfoldable pub job_of : Format → Data → Reading Job
job_of format d = if has_names (job_names format) d then parts_of format d >>= where_true covers_job else Err Shape
