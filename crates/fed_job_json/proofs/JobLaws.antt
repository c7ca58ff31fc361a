-- Jobs are read as what they are the values of.
use Rattle.std.proofs.Common.{◌≡◌, ℕ, true, List, [], ◌∷◌, ◌++◌, Option, Some, None, Ok, refl, subst, ◌∙◌, sym, ap}
use Rattle.std.specs.Prelude.{codes}
use Rattle.std.specs.Ordering.{nat_cmp}
use Rattle.serde_json.specs.Data.{Data, null, boolean, string}
use Rattle.serde_json.specs.Find.{get}
use Rattle.fed_stamp.specs.Stamp.{StampValue}
use Rattle.fed_stamp.specs.declared.rosters.TheConstants.{MAX_NODES}
use Rattle.fed_lattice.specs.Results.{◌>>=◌}
use Rattle.fed_lattice.proofs.ResultLaws.{bind_ok, when_ok, ok_is}
use Rattle.fed_model.specs.declared.limits.TheConstants.{MAX_LIMIT}
use Rattle.fed_model.specs.declared.holds.HoldKind.{HoldKind}
use Rattle.fed_model.specs.Hold.{kind_cmp}
use Rattle.fed_model.specs.JobView.{JobFields, JobStages}
use Rattle.fed_record.specs.JobRecord.{job_reads}
use Rattle.fed_json.specs.declared.flaws.Flaw.TheVariants.{Shape}
use Rattle.fed_json.specs.Reading.{where_true}
use Rattle.fed_json.specs.Numbers.{natural_value, integer_value}
use Rattle.fed_model.specs.Ranges.{IsFrom, IsStamp, IsSite, IsName, IsPriority, IsAccount}
use Rattle.fed_json.specs.Values.{truth_of}
use Rattle.fed_json.specs.Objects.{Named, has_names, member_of}
use Rattle.fed_json.proofs.Forms.{HasMembers, IsForm, IsPartForm}
use Rattle.fed_json.proofs.Steps.{where_true_ok}
use Rattle.fed_json.proofs.FormLaws.{truth_form}
use Rattle.fed_json.proofs.ObjectLaws.{member_part, both_part, mapped_part, object_is, object_has, object_named, names_in, are_distinct}
use Rattle.fed_job_json.specs.declared.formats.Format.{Format}
use Rattle.fed_job_json.specs.declared.formats.Format.TheVariants.{One, Two}
use Rattle.fed_job_json.specs.Stamps.{stamp_value, stamp_of, version_value, version_of, IsVersion}
use Rattle.fed_job_json.specs.Fields.{field_value, field_of, IsField, name_of, priority_of, nodes_of, limit_of, account_value, account_in}
use Rattle.fed_job_json.specs.Grants.{grant_value, grant_of, IsGrant}
use Rattle.fed_job_json.specs.Progress.{progress_value, progress_of, IsProgress}
use Rattle.fed_job_json.specs.Pairs.{holds_value, holds_of, sites_value, sites_of, ArePairs}
use Rattle.fed_job_json.specs.Covers.{covers_job}
use Rattle.fed_job_json.specs.Job.{Job, job_members, job_value, IsAccountIn, IsJob, account_of, fields_of, pairs_of, stages_of, job_names, parts_of, job_of}
use Rattle.fed_job_json.proofs.StampLaws.{stamp_form, version_form}
use Rattle.fed_job_json.proofs.FieldLaws.{field_form, name_form, priority_form, nodes_form, limit_form, account_form}
use Rattle.fed_job_json.proofs.GrantLaws.{grant_form}
use Rattle.fed_job_json.proofs.ProgressLaws.{progress_form}
use Rattle.fed_job_json.proofs.PairLaws.{holds_form, sites_form}

-- ---- fields

abbrev AccountField : Type 0
AccountField = Option (StampValue × Option (List ℕ))

owner_part : IsPartForm (member_of (codes "owner") (field_of name_of)) (λ x. (codes "owner", field_value string x) ∷ []) (IsField IsName)
owner_part = member_part (codes "owner") (field_of name_of) (field_value string) (IsField IsName) (field_form name_of string IsName name_form)

name_part : IsPartForm (member_of (codes "name") (field_of name_of)) (λ x. (codes "name", field_value string x) ∷ []) (IsField IsName)
name_part = member_part (codes "name") (field_of name_of) (field_value string) (IsField IsName) (field_form name_of string IsName name_form)

priority_part : IsPartForm (member_of (codes "priority") (field_of priority_of)) (λ x. (codes "priority", field_value integer_value x) ∷ []) (IsField IsPriority)
priority_part = member_part (codes "priority") (field_of priority_of) (field_value integer_value) (IsField IsPriority) (field_form priority_of integer_value IsPriority priority_form)

nodes_part : IsPartForm (member_of (codes "nodes") (field_of nodes_of)) (λ x. (codes "nodes", field_value natural_value x) ∷ []) (IsField (IsFrom 1 MAX_NODES))
nodes_part = member_part (codes "nodes") (field_of nodes_of) (field_value natural_value) (IsField (IsFrom 1 MAX_NODES)) (field_form nodes_of natural_value (IsFrom 1 MAX_NODES) nodes_form)

limit_part : IsPartForm (member_of (codes "limit") (field_of limit_of)) (λ x. (codes "limit", field_value natural_value x) ∷ []) (IsField (IsFrom 1 MAX_LIMIT))
limit_part = member_part (codes "limit") (field_of limit_of) (field_value natural_value) (IsField (IsFrom 1 MAX_LIMIT)) (field_form limit_of natural_value (IsFrom 1 MAX_LIMIT) limit_form)

account_part : IsPartForm (account_of Two) (λ x. (codes "account", field_value account_value x) ∷ []) (IsField IsAccount)
account_part = member_part (codes "account") (field_of account_in) (field_value account_value) (IsField IsAccount) (field_form account_in account_value IsAccount account_form)

id_part : IsPartForm (member_of (codes "id") stamp_of) (λ x. (codes "id", stamp_value x) ∷ []) IsStamp
id_part = member_part (codes "id") stamp_of stamp_value IsStamp stamp_form

-- in format 1 the account stands for the name of the job
abbrev id_value : AccountField → Data
id_value None = null
id_value (Some f) = stamp_value f.0

abbrev account_named : Format → AccountField → Data
account_named One account = id_value account
account_named Two account = field_value account_value account

abbrev account_name : Format → List ℕ
account_name One = codes "id"
account_name Two = codes "account"

abbrev pub IsAccountHere : Format → AccountField → Type 0
IsAccountHere One None = ⊥
IsAccountHere One (Some (s, None)) = IsStamp s
IsAccountHere One (Some (s, Some name)) = ⊥
IsAccountHere Two account = IsField IsAccount account

account_back : (account : AccountField) → IsAccountHere One account → (s : StampValue) × IsStamp s × (Some (s, None) ≡ account)
account_back None h = absurd h
account_back (Some (s, None)) h = (s, h, refl)
account_back (Some (s, Some name)) h = absurd h

account_in_part : (format : Format) → IsPartForm (account_of format) (λ x. (account_name format, account_named format x) ∷ []) (IsAccountHere format)
account_in_part One = mapped_part (member_of (codes "id") stamp_of) (λ s. (codes "id", stamp_value s) ∷ []) IsStamp (λ s. Some (s, None)) (λ x. (codes "id", id_value x) ∷ []) (IsAccountHere One) id_part (λ s h. (refl, h)) account_back
account_in_part Two = account_part

abbrev fields_named : Format → JobFields → Named
fields_named format f =
    (codes "owner", field_value string f.owner) ∷
    (codes "name", field_value string f.name) ∷
    (codes "priority", field_value integer_value f.priority) ∷
    (codes "nodes", field_value natural_value f.nodes) ∷
    (codes "limit", field_value natural_value f.limit) ∷
    (account_name format, account_named format f.account) ∷ []

abbrev pub AreFields : Format → JobFields → Type 0
AreFields format f = (IsField IsName f.owner × IsField IsName f.name) × (IsField IsPriority f.priority ×
    ((IsField (IsFrom 1 MAX_NODES) f.nodes × IsField (IsFrom 1 MAX_LIMIT) f.limit) × IsAccountHere format f.account))

fields_part : (format : Format) → IsPartForm (fields_of format) (fields_named format) (AreFields format)
unfolding fields_of
fields_part format = mapped_part _ _ _ _ (fields_named format) (AreFields format)
    (both_part _ _ _ _ _ _ (both_part _ _ _ _ _ _ owner_part name_part)
    (both_part _ _ _ _ _ _ priority_part (both_part _ _ _ _ _ _ (both_part _ _ _ _ _ _ nodes_part limit_part) (account_in_part format))))
    (λ p h. (refl, h))
    (λ f h. (((f.owner, f.name), (f.priority, ((f.nodes, f.limit), f.account))), h, refl))

-- ---- pairs and stages

abbrev pub Pairs : Type 0
Pairs = List (HoldKind × StampValue) × List (ℕ × StampValue)

abbrev pairs_named : Pairs → Named
pairs_named p = (codes "holds", holds_value p.0) ∷ (codes "sites", sites_value p.1) ∷ []

abbrev pub AreBothPairs : Pairs → Type 0
AreBothPairs p = ArePairs (λ _. Unit {0}) kind_cmp p.0 × ArePairs IsSite nat_cmp p.1

pairs_part : IsPartForm pairs_of pairs_named AreBothPairs
unfolding pairs_of
pairs_part = both_part _ _ _ _ _ _ (member_part (codes "holds") holds_of holds_value _ holds_form) (member_part (codes "sites") sites_of sites_value _ sites_form)

abbrev stages_named : Format → JobStages → Named
stages_named format s =
    (codes "deleted", boolean s.deleted) ∷
    (codes "grant", grant_value format s.grant) ∷
    (codes "progress", progress_value (s.begun, s.finished)) ∷ []

abbrev pub AreStages : Format → JobStages → Type 0
AreStages format s = Unit {0} × (IsGrant format s.grant × IsProgress (s.begun, s.finished))

stages_part : (format : Format) → IsPartForm (stages_of format) (stages_named format) (AreStages format)
unfolding stages_of
stages_part format = mapped_part _ _ _ _ (stages_named format) (AreStages format)
    (both_part _ _ _ _ _ _ (member_part (codes "deleted") truth_of boolean _ truth_form)
    (both_part _ _ _ _ _ _ (member_part (codes "grant") (grant_of format) (grant_value format) _ (grant_form format)) (member_part (codes "progress") progress_of progress_value _ progress_form)))
    (λ p h. (refl, h))
    (λ s h. ((s.deleted, (s.grant, (s.begun, s.finished))), h, refl))

-- ---- all parts

abbrev pub parts_named : Format → Job → Named
parts_named format (id, r) = (codes "id", stamp_value id) ∷ (fields_named format r.fields ++ (pairs_named (r.holds, r.sites) ++ (stages_named format r.stages ++ ((codes "touched", version_value r.touched) ∷ []))))

abbrev pub AreParts : Format → Job → Type 0
AreParts format (id, r) = IsStamp id × (AreFields format r.fields × (AreBothPairs (r.holds, r.sites) × (AreStages format r.stages × IsVersion r.touched)))

pub parts_part : (format : Format) → IsPartForm (parts_of format) (parts_named format) (AreParts format)
unfolding parts_of
parts_part format = mapped_part _ _ _ _ (parts_named format) (AreParts format)
    (both_part _ _ _ _ _ _ id_part (both_part _ _ _ _ _ _ (fields_part format) (both_part _ _ _ _ _ _ pairs_part
    (both_part _ _ _ _ _ _ (stages_part format) (member_part (codes "touched") version_of version_value _ version_form)))))
    (λ p h. (refl, h))
    (λ j h. ((j.0, (j.1.fields, ((j.1.holds, j.1.sites), (j.1.stages, j.1.touched)))), h, refl))

-- ---- the object

two_from_parts : (d : Data) (j : Job) → HasMembers (parts_named Two j) d → HasMembers (job_members Two j) d
unfolding job_members
two_from_parts d (id, r) h = (h.1.1.1.1.1.1.0, (h.1.1.1.1.1.1.1.1.1.0, (h.1.1.1.1.1.1.1.1.1.1.0, (h.1.1.1.1.1.1.1.0, (h.0, (h.1.1.1.1.1.0, (h.1.1.0, (h.1.1.1.1.0, (h.1.0, (h.1.1.1.0, (h.1.1.1.1.1.1.1.1.1.1.1.0, (h.1.1.1.1.1.1.1.1.0, (h.1.1.1.1.1.1.1.1.1.1.1.1.0, tt)))))))))))))

two_to_parts : (d : Data) (j : Job) → HasMembers (job_members Two j) d → HasMembers (parts_named Two j) d
unfolding job_members
two_to_parts d (id, r) h = (h.1.1.1.1.0, (h.1.1.1.1.1.1.1.1.0, (h.1.1.1.1.1.1.0, (h.1.1.1.1.1.1.1.1.1.0, (h.1.1.1.1.1.1.1.0, (h.1.1.1.1.1.0, (h.0, (h.1.1.1.0, (h.1.1.1.1.1.1.1.1.1.1.1.0, (h.1.0, (h.1.1.0, (h.1.1.1.1.1.1.1.1.1.1.0, (h.1.1.1.1.1.1.1.1.1.1.1.1.0, tt)))))))))))))

one_from_parts : (d : Data) (j : Job) → HasMembers (parts_named One j) d → HasMembers (job_members One j) d
unfolding job_members
one_from_parts d (id, r) h = (h.1.1.1.1.1.1.1.1.1.0, (h.1.1.1.1.1.1.1.1.1.1.0, (h.1.1.1.1.1.1.1.0, (h.0, (h.1.1.1.1.1.0, (h.1.1.0, (h.1.1.1.1.0, (h.1.0, (h.1.1.1.0, (h.1.1.1.1.1.1.1.1.1.1.1.0, (h.1.1.1.1.1.1.1.1.0, (h.1.1.1.1.1.1.1.1.1.1.1.1.0, tt))))))))))))

one_to_parts : (d : Data) (j : Job) → stamp_value j.0 ≡ id_value (job_reads j.1).fields.account → HasMembers (job_members One j) d → HasMembers (parts_named One j) d
unfolding job_members
one_to_parts d (id, r) e h =
    let same : ◌≡◌ {A = Option Data} (Some (stamp_value id)) (Some (id_value (job_reads r).fields.account)) = ap (λ (d : Data). Some d) e in
    (h.1.1.1.0, (h.1.1.1.1.1.1.1.0, (h.1.1.1.1.1.0, (h.1.1.1.1.1.1.1.1.0, (h.1.1.1.1.1.1.0, (h.1.1.1.1.0, ((h.1.1.1.0 ∙ same), (h.1.1.0, (h.1.1.1.1.1.1.1.1.1.1.0, (h.0, (h.1.0, (h.1.1.1.1.1.1.1.1.1.0, (h.1.1.1.1.1.1.1.1.1.1.1.0, tt)))))))))))))

same_stamp : (s t : StampValue) → IsStamp s → IsStamp t → stamp_value s ≡ stamp_value t → s ≡ t
same_stamp s t h i e = ok_is s t (sym ((stamp_form).again s h) ∙ ap stamp_of e ∙ (stamp_form).again t i)

same_data : (o : Option Data) (a b : Data) → o ≡ Some a → o ≡ Some b → a ≡ b
same_data o a b p q = cc

account_is : (id : StampValue) (account : AccountField) → IsStamp id → IsAccountHere One account → stamp_value id ≡ id_value account → account ≡ Some (id, None)
account_is id None h i e = absurd i
account_is id (Some (s, None)) h i e = ap (λ (s : StampValue). Some (s, None)) (sym (same_stamp id s h i e))
account_is id (Some (s, Some name)) h i e = absurd i

-- what the two ranges say of each other
in_range : (format : Format) (j : Job) → AreParts format j → IsAccountIn format j.0 (job_reads j.1).fields.account → covers_job j ≡ true → IsJob format j
in_range format (id, r) h account covered = record {
  id = h.0;
  owner = h.1.0.0.0;
  name = h.1.0.0.1;
  priority = h.1.0.1.0;
  nodes = h.1.0.1.1.0.0;
  limit = h.1.0.1.1.0.1;
  account = account;
  holds = h.1.1.0.0;
  sites = h.1.1.0.1;
  grant = h.1.1.1.0.1.0;
  progress = h.1.1.1.0.1.1;
  touched = h.1.1.1.1;
  covered = covered;
}

parts_in_range : (format : Format) (j : Job) → IsJob format j → IsAccountHere format (job_reads j.1).fields.account → AreParts format j
parts_in_range format (id, r) h account = (h.id, (((h.owner, h.name), (h.priority, ((h.nodes, h.limit), account))), ((h.holds, h.sites), ((tt, (h.grant, h.progress)), h.touched))))

distinct : (format : Format) (j : Job) → are_distinct (names_in (job_members format j)) ≡ true
unfolding job_members
distinct One (id, r) = refl
distinct Two (id, r) = refl

names_are : (format : Format) (j : Job) → names_in (job_members format j) ≡ job_names format
unfolding job_members
names_are One (id, r) = refl
names_are Two (id, r) = refl

taken : (format : Format) (d : Data) (j : Job) → HasMembers (parts_named format j) d → AreParts format j → HasMembers (job_members format j) d × IsAccountIn format j.0 (job_reads j.1).fields.account
taken One d (id, r) h i =
    (one_from_parts d (id, r) h, account_is id (job_reads r).fields.account i.0 i.1.0.1.1.1 (same_data (get (codes "id") d) (stamp_value id) (id_value (job_reads r).fields.account) h.0 h.1.1.1.1.1.1.0))
taken Two d (id, r) h i = (two_from_parts d (id, r) h, i.1.0.1.1.1)

job_takes : (format : Format) (d : Data) (j : Job) → job_of format d ≡ Ok j → (d ≡ job_value format j) × IsJob format j
unfolding job_of
job_takes format d j e =
    let named = when_ok (has_names (job_names format) d) Shape (parts_of format d >>= where_true covers_job) j e in
    let k = bind_ok (parts_of format d) (where_true covers_job) j named.1 in
    let t = where_true_ok covers_job k.0 j (covers_job k.0) refl k.2 in
    let read : parts_of format d ≡ Ok j = k.1 ∙ ap (λ (j : Job). Ok j) t.0 in
    let covered : covers_job j ≡ true = ap covers_job (sym t.0) ∙ t.1 in
    let p = (parts_part format).takes d j read in
    let m = taken format d j p.0 p.1 in
    let names : has_names (names_in (job_members format j)) d ≡ true = rw (names_are format j) named.0 in
    (object_is d (job_members format j) (distinct format j) names m.0, in_range format j p.1 m.1 covered)

here : (format : Format) (id : StampValue) (account : AccountField) → IsStamp id → IsAccountIn format id account → IsAccountHere format account
here One id account h i = subst (λ (a : AccountField). IsAccountHere One a) (sym i) h
here Two id account h i = i

put_back : (format : Format) (d : Data) (j : Job) → IsAccountIn format j.0 (job_reads j.1).fields.account → HasMembers (job_members format j) d → HasMembers (parts_named format j) d
put_back One d (id, r) i h = one_to_parts d (id, r) (sym (ap id_value i)) h
put_back Two d (id, r) i h = two_to_parts d (id, r) h

job_again : (format : Format) (j : Job) → IsJob format j → job_of format (job_value format j) ≡ Ok j
unfolding job_of
job_again format j h =
    let named : has_names (job_names format) (job_value format j) ≡ true = rw (← names_are format j) (object_named (job_members format j)) in
    let members = put_back format (job_value format j) j h.account (object_has (job_members format j) (distinct format j)) in
    let read = (parts_part format).again (job_value format j) j members (parts_in_range format j h (here format j.0 (job_reads j.1).fields.account h.id h.account)) in
    rw (named, read, h.covered) refl

-- just the values of jobs in range are read
pub job_form : (format : Format) → IsForm (job_of format) (job_value format) (IsJob format)
job_form format = record { takes = job_takes format; again = job_again format }
