-- A site's machine.
use Rattle.std.specs.Prelude.{◌≡◌, ℕ, ◌+◌, ◌⊎◌, Bool, not, ◌&&◌, nat_eq, nat_le, if◌then◌else◌, List, [], ◌∷◌, length, slice_index_or, Option, Some, None, is_some, Result, Err}
use Rattle.std.specs.List.{filter_map}
use Rattle.std.specs.Option.{option_map}
use Rattle.fed_stamp.specs.Indexes.{least_index}
use Rattle.fed_stamp.specs.Roster.{is_node_count}
use Rattle.fed_stamp.specs.Stamp.{StampValue}
use Rattle.fed_model.specs.declared.moments.TheConstants.{MAX_END}
use Rattle.fed_model.specs.declared.beginnings.Beginning.{Beginning}
use Rattle.fed_model.specs.JobView.{JobView}
use Rattle.fed_model.specs.Identifiers.{jobs_in}
use Rattle.fed_model.specs.View.{View}
use Rattle.fed_easy.specs.declared.machines.Running.{Running}
use Rattle.fed_easy.specs.declared.machines.TheConstants.{MAX_RUNNING}
use Rattle.fed_easy.specs.declared.machines.MachineFault.{MachineFault}
use Rattle.fed_easy.specs.declared.machines.MachineFault.TheVariants.{Nodes, TooMany, Entry, NoMemory}

-- its nodes, and what runs on them
pub record MachineValue : Type 0 where
  pub nodes : ℕ
  pub running : List Running

-- a machine may have the entry
abbrev pub is_entry : Running → Bool
is_entry r = is_node_count r.nodes && nat_le r.end MAX_END

-- no machine may have the entry at the index
abbrev pub is_bad : List Running → ℕ → Bool
is_bad running k = not (is_entry (slice_index_or running k (record { nodes = 0; end = 0 })))

-- the fault of the least number, and of it the one of the least index
abbrev pub first_fault : ℕ → List Running → Option MachineFault
first_fault nodes running =
    if is_node_count nodes then
    (if nat_le (length running) MAX_RUNNING then option_map Entry (least_index (is_bad running) (length running))
    else Some TooMany)
    else Some Nodes

abbrev pub number_of : MachineFault → ℕ
number_of Nodes = 1
number_of TooMany = 2
number_of (Entry index) = 3
number_of NoMemory = 4

-- the result is the answer, or the error
abbrev pub IsEither : {T E : Type 0} → Result T E → E → Result T E → Type 0
IsEither result error answer = (result ≡ answer) ⊎ (result ≡ Err error)

-- the entry of a Begin, if the site made it
abbrev pub entry_of : ℕ → Option (StampValue × Beginning) → Option Running
entry_of site None = None
entry_of site (Some begun) =
    if nat_eq begun.0.site site then Some (record { nodes = begun.1.nodes; end = begun.1.end }) else None

-- the entry of a job, if the site has begun it and it is not finished
abbrev pub running_of : ℕ → JobView → Option Running
running_of site j = if is_some j.stages.finished then None else entry_of site j.stages.begun

-- the entries of the jobs that the site has begun and that are not finished, in the order of their stamps
abbrev pub running_in : ℕ → View → List Running
running_in site v = filter_map (λ job. running_of site (v.job job)) (jobs_in v)

-- the nodes that the entries have
abbrev pub nodes_of : List Running → ℕ
nodes_of [] = 0
nodes_of (r ∷ rs) = r.nodes + nodes_of rs

-- those that an entry has, if there is one
abbrev pub nodes_of_any : Option Running → ℕ
nodes_of_any None = 0
nodes_of_any (Some r) = r.nodes
