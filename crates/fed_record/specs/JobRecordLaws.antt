-- The laws of records of jobs, and that their equality tells them apart.
use Rattle.std.specs.Prelude.{ℕ, Bool, ◌&&◌, List, [], Option, nat_eq}
use Rattle.std.specs.Bool.{beq}
use Rattle.std.specs.Cmp.{IsPartialEquivalence, both_ways}
use Rattle.std.specs.Cmp.Lexicographic.{pointwise}
use Rattle.std.specs.Option.{option_eq}
use Rattle.std.specs.Ordering.{int_cmp, int_eq, eq_by_cmp}
use Rattle.std.proofs.Common.{ap, refl, sym, ◌∙◌}
use Rattle.std.proofs.lemmas.Cmp.{int_cmp_total}
use Rattle.std.proofs.lemmas.Map.Lookups.{exact_signed}
use Rattle.fed_stamp.specs.Stamp.{StampValue, same_stamp}
use Rattle.fed_lattice.specs.Exact.{TellsApart}
use Rattle.fed_lattice.specs.Laws.{IsAssociative, IsCommutative, IsIdempotent, JoinsWellFormed, BottomsJoin, AddsChange, JoinsHistories, StandsForSets}
use Rattle.fed_lattice.specs.ExactLaws.{tells_booleans, tells_numbers, tells_stamps, tells_options, tells_pairs, tells_lists, tells_by_order}
use Rattle.fed_model.specs.declared.beginnings.Beginning.{Beginning}
use Rattle.fed_model.specs.declared.beginnings.Ending.{Ending}
use Rattle.fed_model.specs.FieldsLaws.{same_fields, tells_fields}
use Rattle.fed_model.specs.Grant.{grant_cmp}
use Rattle.fed_model.specs.GrantLaws.{grant_total, exact_grant}
use Rattle.fed_record.specs.declared.operations.Operation.{Operation}
use Rattle.fed_record.specs.JobPartLaws.{joined_are_fields, fields_assoc, fields_comm, fields_itself, empty_fields_join, fields_add_change, fields_join_histories, fields_stand_for_sets, joined_are_stages, stages_assoc, stages_comm, stages_itself, empty_stages_join, stages_add_change, stages_join_histories, stages_stand_for_sets}
use Rattle.fed_model.specs.JobView.{JobFields, JobStages}
use Rattle.fed_record.specs.JobRecord.{JobRecordValue}
use Rattle.fed_record.specs.JobRecordSteps.{AreFields, join_fields, IsFieldHistory, fields_stand_for, AreStages, join_stages, IsStageHistory, stages_stand_for, IsJobRecord, empty_record, changed_record, joined_record, IsJobHistory, job_record_stands_for}
use Rattle.fed_theory.specs.JobSteps.{empty_fields, changed_fields, empty_stages, changed_stages}
use Rattle.fed_record.specs.RecordLaws.{tells_records, bottom_is_record, applied_is_record, joined_are_records, joined_records_assoc, joined_records_comm, joined_records_itself, bottom_records_join, bottom_record_stands, record_adds_change, record_joins_histories, record_stands_for_sets}
use Rattle.fed_record.specs.RecordSteps.{same_record}
use Rattle.fed_model.specs.StagesLaws.{same_stages, tells_stages}

-- ---- registers
module _ {T : Type 0} (same : T → T → Bool) where
  abbrev pub same_register : Option (StampValue × T) → Option (StampValue × T) → Bool
  same_register = option_eq (λ (p q : StampValue × T). same_stamp p.0 q.0 && same p.1 q.1)

  pub tells_registers : TellsApart same → TellsApart same_register
  tells_registers t = tells_options _ (tells_pairs same_stamp same tells_stamps t)

-- ---- fields
abbrev pub same_name : List ℕ → List ℕ → Bool
same_name = pointwise nat_eq

pub tells_names : TellsApart same_name
tells_names = tells_lists nat_eq tells_numbers

tells_integers : TellsApart int_eq
tells_integers = tells_by_order int_cmp int_eq int_cmp_total exact_signed (λ a b. refl)

abbrev pub same_job_fields : JobFields → JobFields → Bool
same_job_fields = same_fields (same_register same_name) (same_register same_name) (same_register int_eq)
    (same_register nat_eq) (same_register nat_eq) (same_register (option_eq same_name))

pub tells_job_fields : TellsApart same_job_fields
tells_job_fields = tells_fields _ _ _ _ _ _ (tells_registers _ tells_names) (tells_registers _ tells_names) (tells_registers _ tells_integers)
    (tells_registers _ tells_numbers) (tells_registers _ tells_numbers) (tells_registers _ (tells_options _ tells_names))

-- ---- stages
abbrev pub same_beginning : Beginning → Beginning → Bool
same_beginning a b = nat_eq a.moment b.moment && (nat_eq a.nodes b.nodes && nat_eq a.end b.end)

pub tells_beginnings : TellsApart same_beginning
tells_beginnings a b =
    let parts : Beginning → ℕ × (ℕ × ℕ) = λ p. (p.moment, (p.nodes, p.end)) in
    let t = tells_pairs nat_eq _ tells_numbers (tells_pairs nat_eq nat_eq tells_numbers tells_numbers) (parts a) (parts b) in (
      λ e. ap (λ (q : ℕ × (ℕ × ℕ)). let r : Beginning = record { moment = q.0; nodes = q.1.0; end = q.1.1 } in r) (t.0 e),
      λ e. t.1 (ap parts e),
    )

abbrev pub same_ending : Ending → Ending → Bool
same_ending a b = nat_eq a.moment b.moment && nat_eq a.status b.status

pub tells_endings : TellsApart same_ending
tells_endings a b =
    let parts : Ending → ℕ × ℕ = λ p. (p.moment, p.status) in
    let t = tells_pairs nat_eq nat_eq tells_numbers tells_numbers (parts a) (parts b) in (
      λ e. ap (λ (q : ℕ × ℕ). let r : Ending = record { moment = q.0; status = q.1 } in r) (t.0 e),
      λ e. t.1 (ap parts e),
    )

abbrev pub same_job_stages : JobStages → JobStages → Bool
same_job_stages = same_stages beq (option_eq (eq_by_cmp grant_cmp)) (same_register same_beginning) (same_register same_ending)

pub tells_job_stages : TellsApart same_job_stages
tells_job_stages = tells_stages _ _ _ _ tells_booleans (tells_options _ (tells_by_order grant_cmp _ grant_total exact_grant (λ a b. refl)))
    (tells_registers _ tells_beginnings) (tells_registers _ tells_endings)

-- ---- records
abbrev pub same_job_record : JobRecordValue → JobRecordValue → Bool
same_job_record = same_record same_job_fields same_job_stages

pub tells_job_records : TellsApart same_job_record
tells_job_records = tells_records same_job_fields same_job_stages tells_job_fields tells_job_stages

pub job_record_equality : IsPartialEquivalence same_job_record
job_record_equality = record {
  symm = λ a b. both_ways _ _ (λ e. (tells_job_records b a).1 (sym ((tells_job_records a b).0 e))) (λ e. (tells_job_records a b).1 (sym ((tells_job_records b a).0 e)));
  trans = λ a b c e f. (tells_job_records a c).1 ((tells_job_records a b).0 e ∙ (tells_job_records b c).0 f);
}

-- ---- steps
pub empty_is_job_record : IsJobRecord empty_record
empty_is_job_record = bottom_is_record AreFields AreStages empty_fields empty_stages (tt, tt, tt, tt, tt, tt) (tt, tt, tt, tt)

pub changed_is_job_record : (x : JobRecordValue) (s : StampValue) (c : Operation) → IsJobRecord x → IsJobRecord (changed_record x s c)
changed_is_job_record = applied_is_record AreFields AreStages changed_fields changed_stages (λ _ _ _ p. p) (λ _ _ _ p. p)

pub joined_is_job_record : JoinsWellFormed IsJobRecord joined_record
joined_is_job_record = joined_are_records AreFields AreStages join_fields join_stages joined_are_fields joined_are_stages

pub job_records_assoc : IsAssociative IsJobRecord joined_record
job_records_assoc = joined_records_assoc AreFields AreStages join_fields join_stages fields_assoc stages_assoc

pub job_records_comm : IsCommutative IsJobRecord joined_record
job_records_comm = joined_records_comm AreFields AreStages join_fields join_stages fields_comm stages_comm

pub job_records_itself : IsIdempotent IsJobRecord joined_record
job_records_itself = joined_records_itself AreFields AreStages join_fields join_stages fields_itself stages_itself

pub empty_records_join : BottomsJoin empty_record joined_record
empty_records_join = bottom_records_join empty_fields empty_stages join_fields join_stages empty_fields_join empty_stages_join

-- ---- what records stand for
pub empty_record_stands : job_record_stands_for empty_record []
empty_record_stands = bottom_record_stands empty_fields empty_stages fields_stand_for stages_stand_for (refl, refl, refl, refl, refl, refl) (refl, refl, refl, refl)

pub job_record_adds_change : AddsChange IsJobRecord IsJobHistory job_record_stands_for changed_record
job_record_adds_change = record_adds_change AreFields AreStages IsFieldHistory IsStageHistory fields_stand_for stages_stand_for
    changed_fields changed_stages fields_add_change stages_add_change

pub job_records_join_histories : JoinsHistories IsJobRecord IsJobHistory job_record_stands_for joined_record
job_records_join_histories = record_joins_histories AreFields AreStages IsFieldHistory IsStageHistory fields_stand_for stages_stand_for
    join_fields join_stages fields_join_histories stages_join_histories

pub job_record_stands_for_sets : StandsForSets job_record_stands_for
job_record_stands_for_sets = record_stands_for_sets fields_stand_for stages_stand_for fields_stand_for_sets stages_stand_for_sets
