-- Who may do what.
use Rattle.std.specs.Prelude.{ℕ, Bool, true, false, not, ◌||◌, List, Option, Some, None}
use Rattle.std.specs.List.{list_all}
use Rattle.std.specs.Str.{bytes_eq}
use Rattle.fed_stamp.specs.Stamp.{StampValue}
use Rattle.fed_model.specs.declared.askers.Role.{Role}
use Rattle.fed_model.specs.declared.askers.Who.{Who}
use Rattle.fed_model.specs.declared.holds.HoldKind.{HoldKind}
use Rattle.fed_model.specs.declared.holds.HoldKind.TheVariants.{User, Operator, System}
use Rattle.fed_model.specs.declared.holds.HoldKinds.{HoldKinds}
use Rattle.fed_model.specs.Hold.{all_kinds, has_kind}
use Rattle.fed_model.specs.JobView.{JobView}

-- an administrator may do what an operator may
abbrev pub is_operator : Role → Bool
is_operator Role.User = false
is_operator Role.Operator = true
is_operator Role.Administrator = true

abbrev pub is_administrator : Role → Bool
is_administrator Role.User = false
is_administrator Role.Operator = false
is_administrator Role.Administrator = true

abbrev pub is_owner : List ℕ → Option (StampValue × List ℕ) → Bool
is_owner user None = false
is_owner user (Some owner) = bytes_eq owner.1 user

-- the owner of a job, an operator and an administrator may alter and delete it
abbrev pub may_alter : Who → JobView → Bool
may_alter who j = is_owner who.user j.fields.owner || is_operator who.role

-- whether somebody may set and release holds of the kind
abbrev pub may_hold : Who → JobView → HoldKind → Bool
may_hold who j User = may_alter who j
may_hold who j Operator = is_operator who.role
may_hold who j System = is_administrator who.role

-- of several kinds each needs its permission
abbrev pub may_hold_all : Who → JobView → HoldKinds → Bool
may_hold_all who j kinds = list_all (λ kind. not (has_kind kinds kind) || may_hold who j kind) all_kinds
