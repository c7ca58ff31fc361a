-- A record that stands for the operations of a job reads as their view.
use Rattle.std.specs.Ordering.{nat_cmp}
use Rattle.std.specs.List.{range_with_len}
use Rattle.std.proofs.Common.{◌≡◌, ◌↔◌, ℕ, Bool, true, Option, refl, sym, ap, subst, ◌∙◌}
use Rattle.fed_stamp.specs.Stamp.{StampValue}
use Rattle.fed_lattice.proofs.FilterLaws.{Has-filter, filter-Has}
use Rattle.fed_lattice.specs.Flag.{flag_stands_for, has_changes}
use Rattle.fed_lattice.specs.FlagLaws.{flag_from_stands}
use Rattle.fed_lattice.specs.Sets.{Has}
use Rattle.fed_lattice.specs.History.{History, OneEach}
use Rattle.fed_lattice.specs.LatestLaws.{latest_stands, latest_from_stands}
use Rattle.fed_lattice.specs.Part.{part}
use Rattle.fed_lattice.specs.PartLaws.{one_each_part}
use Rattle.fed_lattice.specs.Register.{register_stands_for}
use Rattle.fed_lattice.specs.Stage.{stage_stands_for}
use Rattle.fed_lattice.specs.StageLaws.{stage_stands_for_greatest, stage_from_stands}
use Rattle.fed_lattice.specs.Stamped.{stamped}
use Rattle.fed_tags.specs.Tags.{pair_cmp}
use Rattle.fed_tags.specs.TagLaws.{has_member, member}
use Rattle.fed_model.specs.declared.grants.GrantStage.{GrantStage}
use Rattle.fed_model.specs.declared.holds.HoldKind.{HoldKind}
use Rattle.fed_record.specs.declared.operations.Operation.{Operation}
use Rattle.fed_model.specs.Body.{Body}
use Rattle.fed_record.specs.Changes.{always, field_changes_of, stage_changes_of, hold_change, site_change, removed_holds, removed_sites, field_changes, stage_changes}
use Rattle.fed_model.specs.Hold.{all_kinds, kind_cmp}
use Rattle.fed_model.specs.Fields.{owner_part, name_part, priority_part, nodes_part, limit_part, account_part}
use Rattle.fed_model.specs.Stages.{deleted_part, grant_part, begun_part, finished_part}
use Rattle.fed_model.specs.Field.{owner_in, name_in, priority_in, nodes_in, limit_in, account_in, deletion_in, begin_in, finish_in, field}
use Rattle.fed_model.specs.Grant.{grant_cmp, grant_in, grant_stage}
use Rattle.fed_model.specs.GrantLaws.{grant_total, exact_grant}
use Rattle.fed_record.specs.Operation.{body_of, bodies}
use Rattle.fed_model.specs.Pairs.{adds_site, removes_site, adds_hold, removes_hold}
use Rattle.fed_record.specs.RecordLaws.{hold_order, hold_exact, site_order, site_exact}
use Rattle.fed_record.proofs.BodyLaws.{part-always, part-bodies, part-stamped, part-stamped_bodies, one_each_bodies}
use Rattle.fed_record.proofs.RecordReads.{every_kind, every_site, removed_hold, removed_site}

-- ---- registers
pub field_is : {T : Type 0} (says : Body → Option T) (x : Option (StampValue × T)) (h : History Operation) (l : History T)
    → OneEach h → l ≡ part says (bodies h) → register_stands_for x l → x ≡ field says (bodies h)
field_is says x h l one e p =
    latest_from_stands x (field says (bodies h)) (part says (bodies h)) (one_each_part says (bodies h) (one_each_bodies h one))
    (subst (register_stands_for x) e p) (latest_stands (part says (bodies h)))

-- what the changes of an operation say of a part is what its body says
pub said_by : {C D T : Type 0} (f : D → Option T) (k : C → D) (g : C → Option T) (l : History C) (m : History T) → ((c : C) → f (k c) ≡ g c) → part g l ≡ m → part f (part (always k) l) ≡ m
said_by {C} f k g l m same e = part-always f k l ∙ ap (λ (q : C → _). part q l) (λ i c. same c i) ∙ e

-- ---- holds and sites
pub hold_added : (c : Operation) (kind : HoldKind) → Has (hold_change c).0 kind ↔ (adds_hold (body_of c) kind ≡ true)
hold_added c kind = (
  λ m. (Has-filter (adds_hold (body_of c)) all_kinds kind m).1,
  λ e. filter-Has (adds_hold (body_of c)) all_kinds kind (every_kind (adds_hold (body_of c)) kind e) e,
)

pub hold_removed : (c : Operation) (kind : HoldKind) (tag : StampValue) → Has (hold_change c).1 (kind, tag) ↔ (removes_hold (body_of c) kind tag ≡ true)
hold_removed c kind tag = (
  λ m. sym (removed_hold c kind tag) ∙ has_member (pair_cmp kind_cmp) hold_order hold_exact (kind, tag) (removed_holds c) m,
  λ e. member (pair_cmp kind_cmp) hold_order hold_exact (kind, tag) (removed_holds c) (removed_hold c kind tag ∙ e),
)

pub site_added : (c : Operation) (site : ℕ) → Has (site_change c).0 site ↔ (adds_site (body_of c) site ≡ true)
site_added c site = (
  λ m. (Has-filter (adds_site (body_of c)) (range_with_len 0 16) site m).1,
  λ e. filter-Has (adds_site (body_of c)) (range_with_len 0 16) site (every_site (body_of c) site e) e,
)

pub site_removed : (c : Operation) (site : ℕ) (tag : StampValue) → Has (site_change c).1 (site, tag) ↔ (removes_site (body_of c) site tag ≡ true)
site_removed c site tag = (
  λ m. sym (removed_site c site tag) ∙ has_member (pair_cmp nat_cmp) site_order site_exact (site, tag) (removed_sites c) m,
  λ e. member (pair_cmp nat_cmp) site_order site_exact (site, tag) (removed_sites c) (removed_site c site tag ∙ e),
)

-- ---- stages
pub deletion_is : (x : Bool) (h : History Operation) (l : History (Unit {0})) → l ≡ part deletion_in (bodies h) → flag_stands_for x l → x ≡ has_changes (part deletion_in (bodies h))
deletion_is x h l e p = flag_from_stands x (part deletion_in (bodies h)) (subst (flag_stands_for x) e p)

pub grant_is : (x : Option GrantStage) (h : History Operation) (l : History GrantStage) → l ≡ part grant_in (stamped (bodies h)) → stage_stands_for grant_cmp x l → x ≡ grant_stage (bodies h)
grant_is x h l e p =
    stage_from_stands grant_cmp grant_total exact_grant x (grant_stage (bodies h)) (part grant_in (stamped (bodies h)))
    (subst (stage_stands_for grant_cmp x) e p) (stage_stands_for_greatest grant_cmp grant_total (part grant_in (stamped (bodies h))))

-- ---- what a history's changes of each part are
module _ (h : History Operation) where
  said : {T : Type 0} (says : Body → Option T) → part (λ c. says (body_of c)) h ≡ part says (bodies h)
  said says = sym (part-bodies says h)

  pub owner_said : part owner_part (field_changes h) ≡ part owner_in (bodies h)
  owner_said = said_by owner_part field_changes_of (λ c. owner_in (body_of c)) h _ (λ c. refl) (said owner_in)

  pub name_said : part name_part (field_changes h) ≡ part name_in (bodies h)
  name_said = said_by name_part field_changes_of (λ c. name_in (body_of c)) h _ (λ c. refl) (said name_in)

  pub priority_said : part priority_part (field_changes h) ≡ part priority_in (bodies h)
  priority_said = said_by priority_part field_changes_of (λ c. priority_in (body_of c)) h _ (λ c. refl) (said priority_in)

  pub nodes_said : part nodes_part (field_changes h) ≡ part nodes_in (bodies h)
  nodes_said = said_by nodes_part field_changes_of (λ c. nodes_in (body_of c)) h _ (λ c. refl) (said nodes_in)

  pub limit_said : part limit_part (field_changes h) ≡ part limit_in (bodies h)
  limit_said = said_by limit_part field_changes_of (λ c. limit_in (body_of c)) h _ (λ c. refl) (said limit_in)

  pub account_said : part account_part (field_changes h) ≡ part account_in (bodies h)
  account_said = said_by account_part field_changes_of (λ c. account_in (body_of c)) h _ (λ c. refl) (said account_in)

  pub deletion_said : part deleted_part (stage_changes h) ≡ part deletion_in (bodies h)
  deletion_said = said_by deleted_part stage_changes_of (λ (e : StampValue × Operation). deletion_in (body_of e.1)) (stamped h) _ (λ e. refl) (part-stamped (λ c. deletion_in (body_of c)) h ∙ said deletion_in)

  pub grant_said : part grant_part (stage_changes h) ≡ part grant_in (stamped (bodies h))
  grant_said = said_by grant_part stage_changes_of (λ (e : StampValue × Operation). grant_in (e.0, body_of e.1)) (stamped h) _ (λ e. refl) (sym (part-stamped_bodies grant_in h))

  pub begin_said : part begun_part (stage_changes h) ≡ part begin_in (bodies h)
  begin_said = said_by begun_part stage_changes_of (λ (e : StampValue × Operation). begin_in (body_of e.1)) (stamped h) _ (λ e. refl) (part-stamped (λ c. begin_in (body_of c)) h ∙ said begin_in)

  pub finish_said : part finished_part (stage_changes h) ≡ part finish_in (bodies h)
  finish_said = said_by finished_part stage_changes_of (λ (e : StampValue × Operation). finish_in (body_of e.1)) (stamped h) _ (λ e. refl) (part-stamped (λ c. finish_in (body_of c)) h ∙ said finish_in)
