-- How the record of a job takes a change, joins another and stands for a history, by its registers and stages.
use Rattle.std.specs.Prelude.{ℕ, List, [], replicate}
use Rattle.fed_stamp.specs.declared.sites.TheConstants.{SITES}
use Rattle.fed_stamp.specs.Stamp.{StampValue}
use Rattle.fed_lattice.specs.Flag.{flag_stands_for}
use Rattle.fed_lattice.specs.History.{History}
use Rattle.fed_lattice.specs.Part.{part}
use Rattle.fed_lattice.specs.Register.{register_stands_for}
use Rattle.fed_lattice.specs.Stage.{stage_stands_for}
use Rattle.fed_model.specs.Fields.{owner_part, name_part, priority_part, nodes_part, limit_part, account_part}
use Rattle.fed_model.specs.Grant.{grant_cmp}
use Rattle.fed_model.specs.JobView.{JobFields, JobStages}
use Rattle.fed_model.specs.Stages.{deleted_part, grant_part, begun_part, finished_part}
use Rattle.fed_theory.specs.JobSteps.{JobFieldChanges, JobStageChanges, empty_fields, changed_fields, joined_fields, empty_stages, changed_stages, joined_stages}
use Rattle.fed_record.specs.declared.operations.Operation.{Operation}
use Rattle.fed_record.specs.JobRecord.{JobRecordValue}
use Rattle.fed_record.specs.RecordSteps.{IsRecord, applied_record, joined_records, record_stands_for, IsRecordHistory}

-- what is asked of registers, flags and stages, and of their histories: nothing
abbrev pub always_holds : {X : Type 0} → X → Type 0
always_holds _ = Unit {0}

-- ---- fields
abbrev pub AreFields : JobFields → Type 0
AreFields _ = Unit {0} × Unit {0} × Unit {0} × Unit {0} × Unit {0} × Unit {0}

-- each beside a version
abbrev pub join_fields : JobFields → List ℕ → JobFields → List ℕ → JobFields
join_fields x _ y _ = joined_fields x y

abbrev pub IsFieldHistory : History JobFieldChanges → Type 0
IsFieldHistory _ = Unit {0} × Unit {0} × Unit {0} × Unit {0} × Unit {0} × Unit {0}

abbrev pub fields_stand_for : JobFields → History JobFieldChanges → Type 0
fields_stand_for x h = register_stands_for x.owner (part owner_part h) ×
    register_stands_for x.name (part name_part h) × register_stands_for x.priority (part priority_part h) ×
    register_stands_for x.nodes (part nodes_part h) × register_stands_for x.limit (part limit_part h) ×
    register_stands_for x.account (part account_part h)

-- ---- stages
abbrev pub AreStages : JobStages → Type 0
AreStages _ = Unit {0} × Unit {0} × Unit {0} × Unit {0}

abbrev pub join_stages : JobStages → List ℕ → JobStages → List ℕ → JobStages
join_stages x _ y _ = joined_stages x y

abbrev pub IsStageHistory : History JobStageChanges → Type 0
IsStageHistory _ = Unit {0} × Unit {0} × Unit {0} × Unit {0}

abbrev pub stages_stand_for : JobStages → History JobStageChanges → Type 0
stages_stand_for x h = flag_stands_for x.deleted (part deleted_part h) ×
    stage_stands_for grant_cmp x.grant (part grant_part h) × register_stands_for x.begun (part begun_part h) ×
    register_stands_for x.finished (part finished_part h)

-- ---- records
abbrev pub IsJobRecord : JobRecordValue → Type 0
IsJobRecord = IsRecord AreFields AreStages

abbrev pub empty_record : JobRecordValue
empty_record = record { fields = empty_fields; holds = []; sites = []; stages = empty_stages; touched = replicate SITES 0 }

abbrev pub changed_record : JobRecordValue → StampValue → Operation → JobRecordValue
changed_record = applied_record changed_fields changed_stages

abbrev pub joined_record : JobRecordValue → List ℕ → JobRecordValue → List ℕ → JobRecordValue
joined_record = joined_records join_fields join_stages

abbrev pub IsJobHistory : History Operation → Type 0
IsJobHistory = IsRecordHistory IsFieldHistory IsStageHistory

abbrev pub job_record_stands_for : JobRecordValue → History Operation → Type 0
job_record_stands_for = record_stands_for fields_stand_for stages_stand_for
