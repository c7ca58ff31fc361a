-- How records of jobs change, join and stand for histories, by their parts.
use Rattle.std.specs.Prelude.{◌≡◌, ℕ, Bool, ◌&&◌, List, nat_eq}
use Rattle.std.specs.Cmp.Lexicographic.{pointwise}
use Rattle.std.specs.List.Sorted.{IsStrictlySortedBy}
use Rattle.std.specs.Ordering.{nat_cmp, eq_by_cmp}
use Rattle.fed_stamp.specs.Stamp.{StampValue}
use Rattle.fed_stamp.specs.Version.{joined as joined_versions, raised}
use Rattle.fed_lattice.specs.History.{History}
use Rattle.fed_lattice.specs.VersionOf.{version_of}
use Rattle.fed_tags.specs.Tags.{pair_cmp, applied_tags, joined_tags, IsTagHistory, tags_stand_for}
use Rattle.fed_record.specs.declared.operations.Operation.{Operation}
use Rattle.fed_theory.specs.JobSteps.{JobFieldChanges, JobStageChanges}
use Rattle.fed_record.specs.Changes.{field_changes_of, stage_changes_of, hold_change, site_change, field_changes, stage_changes, hold_changes, site_changes}
use Rattle.fed_model.specs.Hold.{kind_cmp}
use Rattle.fed_record.specs.Record.{RecordValue}

module _ {F G : Type 0} where
  -- the fields and the stages are as they are to be, and the pairs strictly ascend
  abbrev pub IsRecord : (F → Type 0) → (G → Type 0) → RecordValue F G → Type 0
  IsRecord are_fields are_stages x = are_fields x.fields × are_stages x.stages ×
      IsStrictlySortedBy (pair_cmp kind_cmp) x.holds × IsStrictlySortedBy (pair_cmp nat_cmp) x.sites

  -- after an operation with its stamp
  abbrev pub applied_record : (F → StampValue → JobFieldChanges → F) → (G → StampValue → JobStageChanges → G) →
      RecordValue F G → StampValue → Operation → RecordValue F G
  applied_record apply_fields apply_stages x s c = record {
    fields = apply_fields x.fields s (field_changes_of c);
    holds = applied_tags (pair_cmp kind_cmp) x.holds s (hold_change c);
    sites = applied_tags (pair_cmp nat_cmp) x.sites s (site_change c);
    stages = apply_stages x.stages s (stage_changes_of (s, c));
    touched = raised x.touched s;
  }

  -- two records, each beside a version
  abbrev pub joined_records : (F → List ℕ → F → List ℕ → F) → (G → List ℕ → G → List ℕ → G) →
      RecordValue F G → List ℕ → RecordValue F G → List ℕ → RecordValue F G
  joined_records join_fields join_stages x v y w = record {
    fields = join_fields x.fields v y.fields w;
    holds = joined_tags (pair_cmp kind_cmp) x.holds v y.holds w;
    sites = joined_tags (pair_cmp nat_cmp) x.sites v y.sites w;
    stages = join_stages x.stages v y.stages w;
    touched = joined_versions x.touched y.touched;
  }

  -- each part stands for what the operations change in it, and the version is that of the operations
  abbrev pub record_stands_for : (F → History JobFieldChanges → Type 0) → (G → History JobStageChanges → Type 0) →
      RecordValue F G → History Operation → Type 0
  record_stands_for fields_stand_for stages_stand_for x h = fields_stand_for x.fields (field_changes h) ×
      stages_stand_for x.stages (stage_changes h) × tags_stand_for x.holds (hold_changes h) ×
      tags_stand_for x.sites (site_changes h) × (x.touched ≡ version_of h)

-- a history whose changes of each part are one of that part
abbrev pub IsRecordHistory : (History JobFieldChanges → Type 0) → (History JobStageChanges → Type 0) →
    History Operation → Type 0
IsRecordHistory is_field_history is_stage_history h = is_field_history (field_changes h) ×
    is_stage_history (stage_changes h) × IsTagHistory (hold_changes h) × IsTagHistory (site_changes h)

-- records are equal where all their parts are
abbrev pub same_record : {F G : Type 0} → (F → F → Bool) → (G → G → Bool) → RecordValue F G → RecordValue F G → Bool
same_record same_fields same_stages x y =
    (same_fields x.fields y.fields && same_stages x.stages y.stages) &&
    ((pointwise (eq_by_cmp (pair_cmp kind_cmp)) x.holds y.holds &&
    pointwise (eq_by_cmp (pair_cmp nat_cmp)) x.sites y.sites) && pointwise nat_eq x.touched y.touched)
