-- What the operations of one job say of it.
use Rattle.std.specs.Prelude.{ℕ, ℤ, Bool, List, [], Option}
use Rattle.fed_stamp.specs.Stamp.{StampValue}
use Rattle.fed_lattice.specs.History.{History}
use Rattle.fed_lattice.specs.Part.{part}
use Rattle.fed_lattice.specs.Flag.{has_changes}
use Rattle.fed_lattice.specs.VersionOf.{version_of}
use Rattle.fed_model.specs.declared.fields.Fields.{Fields}
use Rattle.fed_model.specs.declared.grants.GrantStage.{GrantStage}
use Rattle.fed_model.specs.declared.holds.HoldKind.{HoldKind}
use Rattle.fed_model.specs.declared.beginnings.Beginning.{Beginning}
use Rattle.fed_model.specs.declared.beginnings.Ending.{Ending}
use Rattle.fed_model.specs.declared.stages.Stages.{Stages}
use Rattle.fed_model.specs.Body.{Body}
use Rattle.fed_model.specs.Field.{owner_in, name_in, priority_in, nodes_in, limit_in, account_in, deletion_in, begin_in, finish_in, field}
use Rattle.fed_model.specs.Grant.{grant_stage}
use Rattle.fed_model.specs.Pairs.{is_live, adds_site, removes_site, adds_hold, removes_hold}

-- the fields, each beside the stamp of the operation that set it, if any did
abbrev pub JobFields : Type 0
JobFields = Fields (Option (StampValue × List ℕ)) (Option (StampValue × List ℕ)) (Option (StampValue × ℤ))
    (Option (StampValue × ℕ)) (Option (StampValue × ℕ)) (Option (StampValue × Option (List ℕ)))

-- whether it is deleted, the greatest stage of its grants, its Begin and its Finish
abbrev pub JobStages : Type 0
JobStages = Stages Bool (Option GrantStage) (Option (StampValue × Beginning)) (Option (StampValue × Ending))

-- all that can be read of a job: its fields, its live pairs, its stages, and the version of its operations
pub record JobView : Type 0 where
  pub fields : JobFields
  pub sites : ℕ → StampValue → Bool
  pub holds : HoldKind → StampValue → Bool
  pub stages : JobStages
  pub touched : List ℕ

-- what is read of the operations of one job
abbrev pub job_view : History Body → JobView
job_view ops = record {
  fields = record {
    owner = field owner_in ops;
    name = field name_in ops;
    priority = field priority_in ops;
    nodes = field nodes_in ops;
    limit = field limit_in ops;
    account = field account_in ops;
  };
  sites = is_live adds_site removes_site ops;
  holds = is_live adds_hold removes_hold ops;
  stages = record {
    deleted = has_changes (part deletion_in ops);
    grant = grant_stage ops;
    begun = field begin_in ops;
    finished = field finish_in ops;
  };
  touched = version_of ops;
}

-- a job of which nothing is known
abbrev pub unknown : JobView
unknown = job_view []
