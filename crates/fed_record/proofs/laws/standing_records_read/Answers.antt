use Rattle.std.specs.Cmp.{nat_cmp_total}
use Rattle.std.specs.Ordering.{nat_cmp}
use Rattle.std.proofs.Common.{sym, ◌∙◌}
use Rattle.std.proofs.lemmas.Map.Lookups.{exact_unsigned}
use Rattle.fed_record.specs.Changes.{hold_change, site_change}
use Rattle.fed_model.specs.Field.{owner_in, name_in, priority_in, nodes_in, limit_in, account_in, begin_in, finish_in}
use Rattle.fed_model.specs.Hold.{kind_cmp}
use Rattle.fed_model.specs.HoldLaws.{kind_total, exact_kind}
use Rattle.fed_model.specs.Pairs.{adds_site, removes_site, adds_hold, removes_hold}
use Rattle.fed_record.proofs.BodyLaws.{version_of-bodies}
use Rattle.fed_record.proofs.StandingTags.{live_is}
use Rattle.fed_record.proofs.StandingRecords.{field_is, deletion_is, grant_is, hold_added, hold_removed, site_added, site_removed, owner_said, name_said, priority_said, nodes_said, limit_said, account_said, deletion_said, grant_said, begin_said, finish_said}
use Rattle.fed_record.proofs.laws.standing_records_read.Goals as goal

pub returns : goal.returns
returns c = λ r h one p.
    let f = p.0 in
    let g = p.1 in
    let owner = field_is owner_in r.fields.owner h _ one (owner_said h) f.0 in
    let name = field_is name_in r.fields.name h _ one (name_said h) f.1 in
    let priority = field_is priority_in r.fields.priority h _ one (priority_said h) f.2 in
    let nodes = field_is nodes_in r.fields.nodes h _ one (nodes_said h) f.3 in
    let limit = field_is limit_in r.fields.limit h _ one (limit_said h) f.4 in
    let account = field_is account_in r.fields.account h _ one (account_said h) f.5 in
    let deleted = deletion_is r.stages.deleted h _ (deletion_said h) g.0 in
    let grant = grant_is r.stages.grant h _ (grant_said h) g.1 in
    let begun = field_is begin_in r.stages.begun h _ one (begin_said h) g.2 in
    let finished = field_is finish_in r.stages.finished h _ one (finish_said h) g.3 in
    let touched = p.4 ∙ sym (version_of-bodies h) in
    λ i. record {
      fields = record { owner = owner i; name = name i; priority = priority i; nodes = nodes i; limit = limit i; account = account i };
      sites = λ site tag. live_is nat_cmp nat_cmp_total exact_unsigned adds_site removes_site site_change site_added site_removed h site tag r.sites p.3 i;
      holds = λ kind tag. live_is kind_cmp kind_total exact_kind adds_hold removes_hold hold_change hold_added hold_removed h kind tag r.holds p.2 i;
      stages = record { deleted = deleted i; grant = grant i; begun = begun i; finished = finished i };
      touched = touched i;
    }
