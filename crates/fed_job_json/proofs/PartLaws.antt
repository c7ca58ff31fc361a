-- Parts that are read beside each other.
use Rattle.std.proofs.Common.{◌≡◌, ℕ, Bool, List, Option, Some, Ok, Err, Vec, Global, refl}
use Rattle.std.specs.Prelude.{ℤ, codes}
use Rattle.serde_json.specs.Data.{Data}
use Rattle.fed_stamp.specs.Stamp.{StampValue}
use Rattle.fed_lattice.specs.Results.{mapped}
use Rattle.fed_model.specs.declared.grants.GrantStage.{GrantStage}
use Rattle.fed_model.specs.declared.holds.HoldKind.{HoldKind}
use Rattle.fed_record.specs.declared.job_readers.Progress.{Progress}
use Rattle.fed_model.specs.JobView.{JobFields, JobStages}
use Rattle.fed_record.specs.JobParts.{FieldValues, fields_set}
use Rattle.fed_json.specs.declared.flaws.Flaw.TheVariants.{Shape, Range}
use Rattle.fed_json.specs.Values.{truth_of}
use Rattle.fed_json.specs.Reading.{Reading, both}
use Rattle.fed_json.specs.Objects.{member_of}
use Rattle.fed_json.proofs.ListLaws.{both-mapped, mapped-mapped}
use Rattle.fed_job_json.specs.declared.formats.Format.{Format}
use Rattle.fed_job_json.specs.Fields.{field_of, name_of, priority_of, nodes_of, limit_of}
use Rattle.fed_job_json.specs.Stamps.{stamp_of, version_of}
use Rattle.fed_job_json.specs.Grants.{grant_of}
use Rattle.fed_job_json.specs.Progress.{Steps, progress_of}
use Rattle.fed_job_json.specs.Pairs.{holds_of, sites_of}
use Rattle.fed_job_json.specs.Job.{Job, account_of, fields_of, pairs_of, stages_of, parts_of}
use Rattle.fed_job_json.specs.Parts.{job_from}

-- fields that are read and set
abbrev pub all_fields : Reading (StampValue × List ℕ) → Reading (StampValue × List ℕ) → Reading (StampValue × ℤ) → Reading (StampValue × ℕ) → Reading (StampValue × ℕ) → Reading (StampValue × Option (List ℕ)) → Reading JobFields
all_fields o n p k l a = mapped (λ q. fields_set (record { owner = q.0.0; name = q.0.1; priority = q.1.0; nodes = q.1.1.0.0; limit = q.1.1.0.1; account = q.1.1.1 })) (both (both o n) (both p (both (both k l) a)))

pub fields_read : (format : Format) (d : Data) (o n : Reading (StampValue × List ℕ)) (p : Reading (StampValue × ℤ)) (k l : Reading (StampValue × ℕ)) (a : Reading (StampValue × Option (List ℕ)))
    → mapped (λ f. Some f) o ≡ member_of (codes "owner") (field_of name_of) d → mapped (λ f. Some f) n ≡ member_of (codes "name") (field_of name_of) d
    → mapped (λ f. Some f) p ≡ member_of (codes "priority") (field_of priority_of) d → mapped (λ f. Some f) k ≡ member_of (codes "nodes") (field_of nodes_of) d
    → mapped (λ f. Some f) l ≡ member_of (codes "limit") (field_of limit_of) d → mapped (λ f. Some f) a ≡ account_of format d
    → all_fields o n p k l a ≡ fields_of format d
unfolding fields_of
fields_read format d o n p k l a e0 e1 e2 e3 e4 e5 =
    rw (← e0, ← e1, ← e2, ← e3, ← e4, ← e5) (simp (both-mapped, mapped-mapped))

right_mapped : {A B C : Type 0} (g : B → C) (r : Reading A) (q : Reading B) → both r (mapped g q) ≡ mapped (λ p. (p.0, g p.1)) (both r q)
right_mapped g (Ok x) (Ok y) = refl
right_mapped g (Ok x) (Err e) = refl
right_mapped g (Err Shape) q = refl
right_mapped g (Err Range) (Ok y) = refl
right_mapped g (Err Range) (Err e) = refl

left_mapped : {A B C : Type 0} (g : A → C) (r : Reading A) (q : Reading B) → both (mapped g r) q ≡ mapped (λ p. (g p.0, p.1)) (both r q)
left_mapped g (Ok x) (Ok y) = refl
left_mapped g (Ok x) (Err e) = refl
left_mapped g (Err Shape) q = refl
left_mapped g (Err Range) (Ok y) = refl
left_mapped g (Err Range) (Err e) = refl

abbrev pub all_stages : Reading Bool → Reading (Option GrantStage) → Reading Progress → Reading JobStages
all_stages b g p = mapped (λ q. record { deleted = q.0; grant = q.1.0; begun = q.1.1.begun; finished = q.1.1.finished }) (both b (both g p))

abbrev made_stages : Bool × (Option GrantStage × Steps) → JobStages
made_stages q = record { deleted = q.0; grant = q.1.0; begun = q.1.1.0; finished = q.1.1.1 }

with_progress : (b : Reading Bool) (g : Reading (Option GrantStage)) (p : Reading Progress)
    → mapped made_stages (both b (both g (mapped (λ (p : Progress). (p.begun, p.finished)) p))) ≡ all_stages b g p
with_progress b g p = simp (right_mapped, mapped-mapped)

pub stages_read : (format : Format) (d : Data) (b : Reading Bool) (g : Reading (Option GrantStage)) (p : Reading Progress)
    → b ≡ member_of (codes "deleted") truth_of d → g ≡ member_of (codes "grant") (grant_of format) d → mapped (λ p. (p.begun, p.finished)) p ≡ member_of (codes "progress") progress_of d
    → all_stages b g p ≡ stages_of format d
unfolding stages_of
stages_read format d b g p e0 e1 e2 =
    rw (← e0, ← e1, ← e2, with_progress b g p) refl

abbrev pub Holds : Type 0
Holds = Vec (HoldKind × StampValue) Global

abbrev pub Sites : Type 0
Sites = Vec (ℕ × StampValue) Global

abbrev pub all_parts : Reading StampValue → Reading FieldValues → Reading Holds → Reading Sites → Reading JobStages → Reading (List ℕ) → Reading Job
all_parts i f h s t v = mapped (λ q. job_from (record { id = q.0; fields = q.1.0; holds = q.1.1.0.0; sites = q.1.1.0.1; stages = q.1.1.1.0; touched = q.1.1.1.1 })) (both i (both f (both (both h s) (both t v))))

with_parts : (i : Reading StampValue) (f : Reading FieldValues) (h : Reading Holds) (s : Reading Sites) (t : Reading JobStages) (v : Reading (List ℕ))
    → all_parts i f h s t v ≡ mapped (λ p. (p.0, record { fields = p.1.0; holds = p.1.1.0.0; sites = p.1.1.0.1; stages = p.1.1.1.0; touched = p.1.1.1.1 }))
    (both i (both (mapped fields_set f) (both (both (mapped (λ v. v.items) h) (mapped (λ v. v.items) s)) (both t v))))
with_parts i f h s t v = simp (both-mapped, left_mapped, right_mapped, mapped-mapped)

pub parts_read : (format : Format) (d : Data) (i : Reading StampValue) (f : Reading FieldValues) (h : Reading Holds) (s : Reading Sites) (t : Reading JobStages) (v : Reading (List ℕ))
    → i ≡ member_of (codes "id") stamp_of d → mapped fields_set f ≡ fields_of format d → mapped (λ v. v.items) h ≡ member_of (codes "holds") holds_of d
    → mapped (λ v. v.items) s ≡ member_of (codes "sites") sites_of d → t ≡ stages_of format d → v ≡ member_of (codes "touched") version_of d
    → all_parts i f h s t v ≡ parts_of format d
unfolding parts_of pairs_of
parts_read format d i f h s t v e0 e1 e2 e3 e4 e5 =
    rw (← e0, ← e1, ← e2, ← e3, ← e4, ← e5) (with_parts i f h s t v)
