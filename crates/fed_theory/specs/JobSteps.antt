-- What is read of a job once one more operation is there, and of two sets of its operations together.
use Rattle.std.specs.Prelude.{ℕ, ℤ, Bool, true, false, not, ◌&&◌, ◌||◌, List, Option, Some, None}
use Rattle.std.specs.Option.{option_cmp}
use Rattle.std.specs.Ordering.{ord_max, nat_cmp, int_cmp}
use Rattle.std.specs.declared.cmp.Ordering.{Ordering}
use Rattle.fed_stamp.specs.Stamp.{StampValue}
use Rattle.fed_stamp.specs.Version.{covers, joined, raised}
use Rattle.fed_lattice.specs.Both.{applied_option}
use Rattle.fed_lattice.specs.Register.{joined_registers}
use Rattle.fed_lattice.specs.Stays.{stays}
use Rattle.fed_model.specs.declared.beginnings.Beginning.{Beginning}
use Rattle.fed_model.specs.declared.beginnings.Ending.{Ending}
use Rattle.fed_model.specs.declared.fields.Fields.{Fields}
use Rattle.fed_model.specs.declared.grants.GrantStage.{GrantStage}
use Rattle.fed_model.specs.declared.stages.Stages.{Stages}
use Rattle.fed_model.specs.Body.{Body}
use Rattle.fed_model.specs.Field.{owner_in, name_in, priority_in, nodes_in, limit_in, account_in, deletion_in, begin_in, finish_in}
use Rattle.fed_model.specs.Grant.{grant_cmp, grant_in}
use Rattle.fed_model.specs.JobView.{JobFields, JobStages, JobView}
use Rattle.fed_model.specs.Pairs.{adds_site, removes_site, adds_hold, removes_hold, adds_pair}
use Rattle.fed_theory.specs.ValueOrders.{name_cmp, account_cmp, beginning_cmp, ending_cmp}

-- ---- what an operation says of each field and of each stage, if anything
abbrev pub JobFieldChanges : Type 0
JobFieldChanges = Fields (Option (List ℕ)) (Option (List ℕ)) (Option ℤ) (Option ℕ) (Option ℕ) (Option (Option (List ℕ)))

abbrev pub fields_in : Body → JobFieldChanges
fields_in body = record {
  owner = owner_in body;
  name = name_in body;
  priority = priority_in body;
  nodes = nodes_in body;
  limit = limit_in body;
  account = account_in body;
}

abbrev pub JobStageChanges : Type 0
JobStageChanges = Stages (Option (Unit {0})) (Option GrantStage) (Option Beginning) (Option Ending)

-- of an operation with its stamp
abbrev pub stages_in : StampValue × Body → JobStageChanges
stages_in e = record {
  deleted = deletion_in e.1;
  grant = grant_in e;
  begun = begin_in e.1;
  finished = finish_in e.1;
}

-- ---- one value more
module _ {T : Type 0} (cmp : T → T → Ordering) where
  -- in a register, with its stamp, and in a stage
  abbrev pub set_register : Option (StampValue × T) → StampValue → T → Option (StampValue × T)
  set_register x s c = joined_registers cmp x (Some (s, c))

  abbrev pub raise_stage : Option T → StampValue → T → Option T
  raise_stage x s c = ord_max (option_cmp cmp) x (Some c)

-- ---- fields
abbrev pub empty_fields : JobFields
empty_fields = record { owner = None; name = None; priority = None; nodes = None; limit = None; account = None }

abbrev pub changed_fields : JobFields → StampValue → JobFieldChanges → JobFields
changed_fields x s c = record {
  owner = applied_option (set_register name_cmp) x.owner s c.owner;
  name = applied_option (set_register name_cmp) x.name s c.name;
  priority = applied_option (set_register int_cmp) x.priority s c.priority;
  nodes = applied_option (set_register nat_cmp) x.nodes s c.nodes;
  limit = applied_option (set_register nat_cmp) x.limit s c.limit;
  account = applied_option (set_register account_cmp) x.account s c.account;
}

abbrev pub joined_fields : JobFields → JobFields → JobFields
joined_fields x y = record {
  owner = joined_registers name_cmp x.owner y.owner;
  name = joined_registers name_cmp x.name y.name;
  priority = joined_registers int_cmp x.priority y.priority;
  nodes = joined_registers nat_cmp x.nodes y.nodes;
  limit = joined_registers nat_cmp x.limit y.limit;
  account = joined_registers account_cmp x.account y.account;
}

-- ---- stages
abbrev pub empty_stages : JobStages
empty_stages = record { deleted = false; grant = None; begun = None; finished = None }

abbrev pub changed_stages : JobStages → StampValue → JobStageChanges → JobStages
changed_stages x s c = record {
  deleted = applied_option (λ _ _ _. true) x.deleted s c.deleted;
  grant = applied_option (raise_stage grant_cmp) x.grant s c.grant;
  begun = applied_option (set_register beginning_cmp) x.begun s c.begun;
  finished = applied_option (set_register ending_cmp) x.finished s c.finished;
}

abbrev pub joined_stages : JobStages → JobStages → JobStages
joined_stages x y = record {
  deleted = x.deleted || y.deleted;
  grant = ord_max (option_cmp grant_cmp) x.grant y.grant;
  begun = joined_registers beginning_cmp x.begun y.begun;
  finished = joined_registers ending_cmp x.finished y.finished;
}

-- ---- jobs
-- of a pair, once one more operation is there: whether it was live, is added, is removed
abbrev pub add_live : Bool → Bool → Bool → Bool
add_live live added removed = (live || added) && not removed

-- an operation of the job, of a stamp that is not covered
unfoldable pub add_to_job : StampValue → Body → JobView → JobView
add_to_job t body j = record {
  fields = changed_fields j.fields t (fields_in body);
  sites = λ site tag. add_live (j.sites site tag) (adds_pair adds_site removes_site site tag (t, body))
      (removes_site body site tag);
  holds = λ kind tag. add_live (j.holds kind tag) (adds_pair adds_hold removes_hold kind tag (t, body))
      (removes_hold body kind tag);
  stages = changed_stages j.stages t (stages_in (t, body));
  touched = raised j.touched t;
}

-- each beside a version
unfoldable pub join_jobs : List ℕ → JobView → List ℕ → JobView → JobView
join_jobs v j w k = record {
  fields = joined_fields j.fields k.fields;
  sites = λ site tag. stays (j.sites site tag) (covers v tag) (k.sites site tag) (covers w tag);
  holds = λ kind tag. stays (j.holds kind tag) (covers v tag) (k.holds kind tag) (covers w tag);
  stages = joined_stages j.stages k.stages;
  touched = joined j.touched k.touched;
}
