use Rattle.std.proofs.Common.{◌≡◌, ap, sym, ◌∙◌, refl}
use Rattle.std.specs.Prelude.{codes}
use Rattle.fed_lattice.specs.Results.{mapped}
use Rattle.fed_json.specs.Reading.{both}
use Rattle.fed_job_json.specs.Fields.{field_of, name_of, priority_of, nodes_of, limit_of}
use Rattle.fed_job_json.specs.Members.{members_value}
use Rattle.fed_record.specs.JobParts.{fields_set}
use Rattle.fed_job_json.proofs.PartLaws.{fields_read}
use Rattle.fed_job_json.proofs.MemberLaws.{found}
use Rattle.fed_job_json.proofs.fields.fields.Goals as goal

pub returns-in-Ok : goal.returns-in-Ok
returns-in-Ok c =
    let m = c.args.members.now in
    let read = fields_read c.args.format (members_value m) c.field.result c.field-2.result c.field-5.result c.field-3.result c.field-4.result c.account_member.result
    (c.field.ensures ∙ found m (codes "owner") m.owner (field_of name_of) refl refl)
    (c.field-2.ensures ∙ found m (codes "name") m.name (field_of name_of) refl refl)
    (c.field-5.ensures ∙ found m (codes "priority") m.priority (field_of priority_of) refl refl)
    (c.field-3.ensures ∙ found m (codes "nodes") m.nodes (field_of nodes_of) refl refl)
    (c.field-4.ensures ∙ found m (codes "limit") m.limit (field_of limit_of) refl refl)
    c.account_member.ensures in
    let whole : both (both c.field.result c.field-2.result) (both c.field-5.result (both (both c.field-3.result c.field-4.result) c.account_member.result)) ≡ c.both-2.result =
    rw (c.both-2.ensures, c.both.ensures, c.both-others.ensures, c.both-numbers.ensures, c.both-names.ensures) refl in
    sym (ap (mapped (λ q. fields_set (record { owner = q.0.0; name = q.0.1; priority = q.1.0; nodes = q.1.1.0.0; limit = q.1.1.0.1; account = q.1.1.1 }))) (whole ∙ c.in-Ok.is)) ∙ read

pub returns-in-Err : goal.returns-in-Err
returns-in-Err c =
    let m = c.args.members.now in
    let read = fields_read c.args.format (members_value m) c.field.result c.field-2.result c.field-5.result c.field-3.result c.field-4.result c.account_member.result
    (c.field.ensures ∙ found m (codes "owner") m.owner (field_of name_of) refl refl)
    (c.field-2.ensures ∙ found m (codes "name") m.name (field_of name_of) refl refl)
    (c.field-5.ensures ∙ found m (codes "priority") m.priority (field_of priority_of) refl refl)
    (c.field-3.ensures ∙ found m (codes "nodes") m.nodes (field_of nodes_of) refl refl)
    (c.field-4.ensures ∙ found m (codes "limit") m.limit (field_of limit_of) refl refl)
    c.account_member.ensures in
    let whole : both (both c.field.result c.field-2.result) (both c.field-5.result (both (both c.field-3.result c.field-4.result) c.account_member.result)) ≡ c.both-2.result =
    rw (c.both-2.ensures, c.both.ensures, c.both-others.ensures, c.both-numbers.ensures, c.both-names.ensures) refl in
    sym (ap (mapped (λ q. fields_set (record { owner = q.0.0; name = q.0.1; priority = q.1.0; nodes = q.1.1.0.0; limit = q.1.1.0.1; account = q.1.1.1 }))) (whole ∙ c.in-Err.is)) ∙ read
