-- Parts of records, and the record that is made of them.
use Rattle.std.specs.Prelude.{ℕ, ℤ, List, Option, Some}
use Rattle.std.specs.List.Sorted.{IsStrictlySortedBy}
use Rattle.std.specs.Ordering.{nat_cmp}
use Rattle.fed_tags.specs.Tags.{pair_cmp}
use Rattle.fed_stamp.specs.Stamp.{StampValue}
use Rattle.fed_model.specs.declared.fields.Fields.{Fields}
use Rattle.fed_record.specs.declared.job_parts.JobParts.{JobParts}
use Rattle.fed_model.specs.Hold.{kind_cmp}
use Rattle.fed_model.specs.JobView.{JobFields}
use Rattle.fed_record.specs.Record.{AreCovered}
use Rattle.fed_record.specs.JobRecord.{JobRecordValue}

-- a record can be made of the parts: the pairs strictly ascend, and the version of the job's operations covers them
pub record AreRecordParts (parts : JobParts) : Type 0 where
  pub holds_ascend : IsStrictlySortedBy (pair_cmp kind_cmp) parts.hold_tags.now
  pub sites_ascend : IsStrictlySortedBy (pair_cmp nat_cmp) parts.site_tags.now
  pub holds_covered : AreCovered parts.touched parts.hold_tags.now
  pub sites_covered : AreCovered parts.touched parts.site_tags.now

-- the fields, each beside the stamp of the operation that set it
abbrev pub FieldValues : Type 0
FieldValues = Fields (StampValue × List ℕ) (StampValue × List ℕ) (StampValue × ℤ) (StampValue × ℕ) (StampValue × ℕ) (StampValue × Option (List ℕ))

abbrev pub fields_set : FieldValues → JobFields
fields_set f = record {
  owner = Some f.owner;
  name = Some f.name;
  priority = Some f.priority;
  nodes = Some f.nodes;
  limit = Some f.limit;
  account = Some f.account;
}

abbrev pub record_of : JobParts → JobRecordValue
record_of parts = record {
  fields = fields_set parts.fields;
  holds = parts.hold_tags.now;
  sites = parts.site_tags.now;
  stages = parts.stages;
  touched = parts.touched;
}
