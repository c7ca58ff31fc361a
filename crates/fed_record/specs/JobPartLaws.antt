-- The laws of the fields and of the stages of jobs, from those of registers, flags and stages.
use Rattle.std.specs.Cmp.{IsTotalOrder}
use Rattle.std.specs.Option.{option_cmp}
use Rattle.std.specs.Ordering.{ord_max, nat_cmp, int_cmp}
use Rattle.std.proofs.Common.{◌≡◌, ℕ, List, ◌∷◌, ◌++◌, true, ◌||◌, Option, Ordering, refl}
use Rattle.std.proofs.lemmas.Map.Lookups.{CmpEqualImpliesEq, exact_unsigned, exact_signed}
use Rattle.fed_stamp.specs.Stamp.{StampValue}
use Rattle.fed_stamp.proofs.WordLaws.{exact_word}
use Rattle.fed_lattice.specs.Both.{applied_option}
use Rattle.fed_lattice.specs.Flag.{flag_stands_for}
use Rattle.fed_lattice.specs.FlagLaws.{or_assoc, or_comm, or_itself, flag_applied_stands, flag_joined_stands, flag_stands_same}
use Rattle.fed_lattice.specs.GreatestLaws.{option_max_assoc, option_max_comm, option_max_itself}
use Rattle.fed_lattice.specs.History.{History, IsFresh, Agree}
use Rattle.fed_lattice.specs.Laws.{IsAssociative, IsCommutative, IsIdempotent, JoinsWellFormed, BottomsJoin, AddsChange, JoinsHistories, StandsForSets}
use Rattle.fed_lattice.specs.Part.{part}
use Rattle.fed_lattice.specs.Register.{stamped_cmp, joined_registers, register_stands_for}
use Rattle.fed_lattice.specs.RegisterLaws.{stamped_total, exact_stamped, register_applied_stands, register_joined_stands, register_stands_same}
use Rattle.fed_lattice.specs.Stage.{stage_stands_for}
use Rattle.fed_lattice.specs.StageLaws.{stage_applied_stands, stage_joined_stands, stage_stands_same}
use Rattle.fed_model.specs.Fields.{owner_part, name_part, priority_part, nodes_part, limit_part, account_part}
use Rattle.fed_model.specs.Grant.{grant_cmp}
use Rattle.fed_model.specs.GrantLaws.{grant_total, exact_grant}
use Rattle.fed_record.specs.JobRecordSteps.{always_holds, AreFields, join_fields, IsFieldHistory, fields_stand_for, AreStages, join_stages, IsStageHistory, stages_stand_for}
use Rattle.fed_theory.specs.JobSteps.{set_register, raise_stage, empty_fields, changed_fields, empty_stages, changed_stages}
use Rattle.fed_model.specs.NamedPartLaws.{part_adds_change, part_joins_histories, part_stands_for_sets}
use Rattle.fed_model.specs.Stages.{deleted_part, grant_part, begun_part, finished_part}
use Rattle.fed_model.specs.ValueLaws.{exact_account, exact_beginning, exact_ending}
use Rattle.fed_theory.specs.ValueOrderLaws.{name_total, priority_total, number_total, account_total, beginning_total, ending_total}
use Rattle.fed_theory.specs.ValueOrders.{name_cmp, account_cmp, beginning_cmp, ending_cmp}

-- ---- one register
module _ {T : Type 0} (cmp : T → T → Ordering) (total : IsTotalOrder cmp) (exact : CmpEqualImpliesEq cmp) where
  registers_assoc : (x y z : Option (StampValue × T)) → joined_registers cmp (joined_registers cmp x y) z ≡ joined_registers cmp x (joined_registers cmp y z)
  registers_assoc = option_max_assoc (stamped_cmp cmp) (stamped_total cmp total) (exact_stamped cmp exact)

  registers_comm : (x y : Option (StampValue × T)) → joined_registers cmp x y ≡ joined_registers cmp y x
  registers_comm = option_max_comm (stamped_cmp cmp) (stamped_total cmp total) (exact_stamped cmp exact)

  register_adds : {C : Type 0} (change : C → Option T) (x : Option (StampValue × T)) (h : History C) (s : StampValue) (c : C)
      → register_stands_for x (part change h) → IsFresh s h
      → register_stands_for (applied_option (set_register cmp) x s (change c)) (part change ((s, c) ∷ h))
  register_adds change x h s c r f =
      part_adds_change change always_holds always_holds register_stands_for (set_register cmp)
      (λ y g t d _ k _ _ _. register_applied_stands cmp total exact y g t d k) x h s c tt r tt f tt

  register_joins : {C : Type 0} (change : C → Option T) (x y : Option (StampValue × T)) (v w : List ℕ) (g h : History C)
      → register_stands_for x (part change g) → register_stands_for y (part change h) → Agree v g w h
      → register_stands_for (joined_registers cmp x y) (part change (g ++ h))
  register_joins change x y v w g h p q a =
      part_joins_histories change always_holds always_holds register_stands_for (λ k _ l _. joined_registers cmp k l)
      (λ k l _ _ m n _ _ r s _ _ _. register_joined_stands cmp total k l m n r s) x y v w g h tt tt p q a tt tt

registers_itself : {T : Type 0} (cmp : T → T → Ordering) (x : Option (StampValue × T)) → joined_registers cmp x x ≡ x
registers_itself cmp = option_max_itself (stamped_cmp cmp)

register_sets : {T C : Type 0} (change : C → Option T) → StandsForSets {X = Option (StampValue × T)} {C = C} (λ x h. register_stands_for x (part change h))
register_sets change = part_stands_for_sets change register_stands_for register_stands_same

-- ---- fields
pub joined_are_fields : JoinsWellFormed AreFields join_fields
joined_are_fields _ _ _ _ p _ = p

pub fields_assoc : IsAssociative AreFields join_fields
fields_assoc x y z _ _ _ _ _ _ = λ i. record {
  owner = registers_assoc name_cmp name_total exact_word x.owner y.owner z.owner i;
  name = registers_assoc name_cmp name_total exact_word x.name y.name z.name i;
  priority = registers_assoc int_cmp priority_total exact_signed x.priority y.priority z.priority i;
  nodes = registers_assoc nat_cmp number_total exact_unsigned x.nodes y.nodes z.nodes i;
  limit = registers_assoc nat_cmp number_total exact_unsigned x.limit y.limit z.limit i;
  account = registers_assoc account_cmp account_total exact_account x.account y.account z.account i;
}

pub fields_comm : IsCommutative AreFields join_fields
fields_comm x y _ _ _ _ = λ i. record {
  owner = registers_comm name_cmp name_total exact_word x.owner y.owner i;
  name = registers_comm name_cmp name_total exact_word x.name y.name i;
  priority = registers_comm int_cmp priority_total exact_signed x.priority y.priority i;
  nodes = registers_comm nat_cmp number_total exact_unsigned x.nodes y.nodes i;
  limit = registers_comm nat_cmp number_total exact_unsigned x.limit y.limit i;
  account = registers_comm account_cmp account_total exact_account x.account y.account i;
}

pub fields_itself : IsIdempotent AreFields join_fields
fields_itself x _ _ = λ i. record {
  owner = registers_itself name_cmp x.owner i;
  name = registers_itself name_cmp x.name i;
  priority = registers_itself int_cmp x.priority i;
  nodes = registers_itself nat_cmp x.nodes i;
  limit = registers_itself nat_cmp x.limit i;
  account = registers_itself account_cmp x.account i;
}

pub empty_fields_join : BottomsJoin empty_fields join_fields
empty_fields_join _ _ = refl

pub fields_add_change : AddsChange AreFields IsFieldHistory fields_stand_for changed_fields
fields_add_change x h s c _ r _ f _ = (
  register_adds name_cmp name_total exact_word owner_part x.owner h s c r.0 f,
  register_adds name_cmp name_total exact_word name_part x.name h s c r.1 f,
  register_adds int_cmp priority_total exact_signed priority_part x.priority h s c r.2 f,
  register_adds nat_cmp number_total exact_unsigned nodes_part x.nodes h s c r.3 f,
  register_adds nat_cmp number_total exact_unsigned limit_part x.limit h s c r.4 f,
  register_adds account_cmp account_total exact_account account_part x.account h s c r.5 f,
)

pub fields_join_histories : JoinsHistories AreFields IsFieldHistory fields_stand_for join_fields
fields_join_histories x y v w g h _ _ p q a _ _ = (
  register_joins name_cmp name_total exact_word owner_part x.owner y.owner v w g h p.0 q.0 a,
  register_joins name_cmp name_total exact_word name_part x.name y.name v w g h p.1 q.1 a,
  register_joins int_cmp priority_total exact_signed priority_part x.priority y.priority v w g h p.2 q.2 a,
  register_joins nat_cmp number_total exact_unsigned nodes_part x.nodes y.nodes v w g h p.3 q.3 a,
  register_joins nat_cmp number_total exact_unsigned limit_part x.limit y.limit v w g h p.4 q.4 a,
  register_joins account_cmp account_total exact_account account_part x.account y.account v w g h p.5 q.5 a,
)

pub fields_stand_for_sets : StandsForSets fields_stand_for
fields_stand_for_sets x g h e p = (
  register_sets owner_part x.owner g h e p.0,
  register_sets name_part x.name g h e p.1,
  register_sets priority_part x.priority g h e p.2,
  register_sets nodes_part x.nodes g h e p.3,
  register_sets limit_part x.limit g h e p.4,
  register_sets account_part x.account g h e p.5,
)

-- ---- stages
pub joined_are_stages : JoinsWellFormed AreStages join_stages
joined_are_stages _ _ _ _ p _ = p

pub stages_assoc : IsAssociative AreStages join_stages
stages_assoc x y z _ _ _ _ _ _ = λ i. record {
  deleted = or_assoc x.deleted y.deleted z.deleted i;
  grant = option_max_assoc grant_cmp grant_total exact_grant x.grant y.grant z.grant i;
  begun = registers_assoc beginning_cmp beginning_total exact_beginning x.begun y.begun z.begun i;
  finished = registers_assoc ending_cmp ending_total exact_ending x.finished y.finished z.finished i;
}

pub stages_comm : IsCommutative AreStages join_stages
stages_comm x y _ _ _ _ = λ i. record {
  deleted = or_comm x.deleted y.deleted i;
  grant = option_max_comm grant_cmp grant_total exact_grant x.grant y.grant i;
  begun = registers_comm beginning_cmp beginning_total exact_beginning x.begun y.begun i;
  finished = registers_comm ending_cmp ending_total exact_ending x.finished y.finished i;
}

pub stages_itself : IsIdempotent AreStages join_stages
stages_itself x _ _ = λ i. record {
  deleted = or_itself x.deleted i;
  grant = option_max_itself grant_cmp x.grant i;
  begun = registers_itself beginning_cmp x.begun i;
  finished = registers_itself ending_cmp x.finished i;
}

pub empty_stages_join : BottomsJoin empty_stages join_stages
empty_stages_join _ _ = refl

pub stages_add_change : AddsChange AreStages IsStageHistory stages_stand_for changed_stages
stages_add_change x h s c _ r _ f _ = (
  part_adds_change deleted_part always_holds always_holds flag_stands_for (λ _ _ _. true) (λ _ g t d _ _ _ _ _. flag_applied_stands g t d) x.deleted h s c tt r.0 tt f tt,
  part_adds_change grant_part always_holds always_holds (stage_stands_for grant_cmp) (raise_stage grant_cmp)
      (λ y g t d _ k _ _ _. stage_applied_stands grant_cmp grant_total exact_grant y g t d k) x.grant h s c tt r.1 tt f tt,
  register_adds beginning_cmp beginning_total exact_beginning begun_part x.begun h s c r.2 f,
  register_adds ending_cmp ending_total exact_ending finished_part x.finished h s c r.3 f,
)

pub stages_join_histories : JoinsHistories AreStages IsStageHistory stages_stand_for join_stages
stages_join_histories x y v w g h _ _ p q a _ _ = (
  part_joins_histories deleted_part always_holds always_holds flag_stands_for (λ k _ l _. k || l)
      (λ k l _ _ m n _ _ r s _ _ _. flag_joined_stands k l m n r s) x.deleted y.deleted v w g h tt tt p.0 q.0 a tt tt,
  part_joins_histories grant_part always_holds always_holds (stage_stands_for grant_cmp) (λ k _ l _. ord_max (option_cmp grant_cmp) k l)
      (λ k l _ _ m n _ _ r s _ _ _. stage_joined_stands grant_cmp grant_total k l m n r s) x.grant y.grant v w g h tt tt p.1 q.1 a tt tt,
  register_joins beginning_cmp beginning_total exact_beginning begun_part x.begun y.begun v w g h p.2 q.2 a,
  register_joins ending_cmp ending_total exact_ending finished_part x.finished y.finished v w g h p.3 q.3 a,
)

pub stages_stand_for_sets : StandsForSets stages_stand_for
stages_stand_for_sets x g h e p = (
  part_stands_for_sets deleted_part flag_stands_for flag_stands_same x.deleted g h e p.0,
  part_stands_for_sets grant_part (stage_stands_for grant_cmp) (stage_stands_same grant_cmp) x.grant g h e p.1,
  register_sets begun_part x.begun g h e p.2,
  register_sets finished_part x.finished g h e p.3,
)
