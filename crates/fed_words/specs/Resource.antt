-- Lists of resources: `resource=value` pairs, joined by single commas. A value of `sites` is names of sites, joined
-- by `+`.
use Rattle.std.specs.Prelude.{ℕ, Bool, ◌==◌, List, codes, Option, Some, None, is_some, option_map, position, Err, if◌then◌else◌}
use Rattle.std.specs.List.{before_first, after_first, slice_split}
use Rattle.std.specs.Option.{ok_or}
use Rattle.std.specs.Str.{byte, bytes_eq}
use Rattle.fed_stamp.specs.declared.rosters.TheConstants.{MAX_NODES}
use Rattle.fed_stamp.specs.SiteSet.{set_of}
use Rattle.fed_lattice.specs.Results.{mapped, each}
use Rattle.fed_model.specs.declared.limits.TheConstants.{MAX_LIMIT}
use Rattle.fed_words.specs.declared.faults.UsageFault.TheVariants.{BadValue}
use Rattle.fed_words.specs.declared.resources.Resource.{Resource}
use Rattle.fed_words.specs.declared.resources.Resource.TheVariants.{Nodes, Limit, Sites}
use Rattle.fed_words.specs.declared.resources.Resources.{Resources}
use Rattle.fed_words.specs.Fault.{OrFault}
use Rattle.fed_words.specs.Last.{last_of}
use Rattle.fed_words.specs.Number.{number_in}
use Rattle.fed_words.specs.Site.{site_in}

abbrev pub is_comma : ℕ → Bool
is_comma b = b == byte ","

abbrev pub is_plus : ℕ → Bool
is_plus b = b == byte "+"

abbrev pub is_equals : ℕ → Bool
is_equals b = b == byte "="

-- the set of the sites that are named
abbrev pub sites_in : List (List ℕ × ℕ) → List ℕ → OrFault (List Bool)
sites_in roster value = mapped set_of (each (site_in BadValue roster) (slice_split is_plus value))

-- the value of a resource
abbrev pub value_in : List (List ℕ × ℕ) → List ℕ → List ℕ → OrFault Resource
value_in roster name value = if bytes_eq name (codes "nodes")
    then ok_or (option_map Nodes (number_in 1 MAX_NODES value)) BadValue
    else (if bytes_eq name (codes "walltime") then ok_or (option_map Limit (number_in 1 MAX_LIMIT value)) BadValue
    else (if bytes_eq name (codes "sites") then mapped Sites (sites_in roster value)
    else Err BadValue))

-- `resource=value`
abbrev pub resource_in : List (List ℕ × ℕ) → List ℕ → OrFault Resource
resource_in roster pair = if is_some (position is_equals pair)
    then value_in roster (before_first is_equals pair) (after_first is_equals pair) else Err BadValue

abbrev pub nodes_in : Resource → Option ℕ
nodes_in (Nodes n) = Some n
nodes_in _ = None

abbrev pub limit_in : Resource → Option ℕ
limit_in (Limit n) = Some n
limit_in _ = None

abbrev pub set_in : Resource → Option (List Bool)
set_in (Sites set) = Some set
set_in _ = None

-- of a resource given twice the last counts
abbrev pub last_resources : List Resource → Resources
last_resources given =
    record { nodes = last_of nodes_in given; limit = last_of limit_in given; sites = last_of set_in given }

-- a list of resources
abbrev pub resources_in : List (List ℕ × ℕ) → List ℕ → OrFault Resources
resources_in roster text = mapped last_resources (each (resource_in roster) (slice_split is_comma text))
