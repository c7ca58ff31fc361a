-- What an operation says of its job's fields, of its end and of its reservation, if anything.
use Rattle.std.specs.Prelude.{ℕ, ℤ, List, Option, Some, None}
use Rattle.fed_lattice.specs.History.{History}
use Rattle.fed_lattice.specs.Part.{part}
use Rattle.fed_lattice.specs.Latest.{latest}
use Rattle.fed_stamp.specs.Stamp.{StampValue}
use Rattle.fed_model.specs.declared.beginnings.Beginning.{Beginning}
use Rattle.fed_model.specs.declared.beginnings.Ending.{Ending}
use Rattle.fed_model.specs.declared.values.JobValues.{JobValues}
use Rattle.fed_model.specs.declared.values.Changes.{Changes}
use Rattle.fed_model.specs.declared.windows.Window.{Window}
use Rattle.fed_model.specs.Body.{Body, Body.Submit, Body.OfJob, Body.Reserve, Body.Cancel, JobBody.Set, JobBody.Delete, JobBody.Begin, JobBody.Finish}

abbrev pub owner_in : Body → Option (List ℕ)
owner_in (Submit owner values held) = Some owner
owner_in _ = None

-- a value that a Submit gives, and that a Set may change
abbrev pub given : {T : Type 0} → (JobValues → T) → (Changes → Option T) → Body → Option T
given value change (Submit owner values held) = Some (value values)
given value change (OfJob job (Set changes removed)) = change changes
given value change _ = None

abbrev pub name_in : Body → Option (List ℕ)
name_in = given (λ v. v.name) (λ c. c.name)

abbrev pub priority_in : Body → Option ℤ
priority_in = given (λ v. v.priority) (λ c. c.priority)

abbrev pub nodes_in : Body → Option ℕ
nodes_in = given (λ v. v.nodes) (λ c. c.nodes)

abbrev pub limit_in : Body → Option ℕ
limit_in = given (λ v. v.limit) (λ c. c.limit)

abbrev pub account_in : Body → Option (Option (List ℕ))
account_in = given (λ v. v.account) (λ c. c.account)

abbrev pub deletion_in : Body → Option (Unit {0})
deletion_in (OfJob job Delete) = Some tt
deletion_in _ = None

abbrev pub begin_in : Body → Option Beginning
begin_in (OfJob job (Begin beginning)) = Some beginning
begin_in _ = None

abbrev pub finish_in : Body → Option Ending
finish_in (OfJob job (Finish ending)) = Some ending
finish_in _ = None

-- the window that it gives its reservation, or none
abbrev pub window_in : Body → Option (Option Window)
window_in (Reserve window) = Some (Some window)
window_in (Cancel reservation) = Some None
window_in _ = None

-- the value that the greatest stamped operation says, of those that say one, with its stamp
abbrev pub field : {T : Type 0} → (Body → Option T) → History Body → Option (StampValue × T)
field says ops = latest (part says ops)
