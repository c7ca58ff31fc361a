-- A roster is seen as the list of its sites, in order: of each the bytes of its name, and its number of nodes.
use Rattle.std.specs.Prelude.{◌≢◌, ℕ, ◌-◌, ◌≤◌, Bool, not, ◌&&◌, ◌||◌, ◌==◌, nat_eq, nat_le, IsTrue, List, [], ◌++◌, length, map, replicate, slice_index_or, Option, Some, None, is_some, Result, Ok, Err, if◌then◌else◌}
use Rattle.std.specs.Borrow.{Bor}
use Rattle.std.specs.Char.{is_ascii_alphanumeric}
use Rattle.std.specs.Cmp.Lexicographic.{pointwise}
use Rattle.std.specs.List.{All, AllPairs, list_all, filter_map}
use Rattle.std.specs.Option.{option_map, option_or}
use Rattle.fed_stamp.specs.Indexes.{least_index}
use Rattle.fed_stamp.specs.Word.{is_name}
use Rattle.fed_stamp.specs.declared.sites.TheConstants.{SITES}
use Rattle.fed_stamp.specs.declared.rosters.TheConstants.{MAX_NODES}
use Rattle.fed_stamp.specs.declared.rosters.RosterFault.{RosterFault}
use Rattle.fed_stamp.specs.declared.rosters.RosterFault.TheVariants.{Count, Name, Twice, Nodes}

-- ASCII letters and digits, and '-' (45)
abbrev pub is_site_byte : ℕ → Bool
is_site_byte b = is_ascii_alphanumeric b || (b == 45)

-- a name of these alone
unfoldable pub is_site_name : List ℕ → Bool
is_site_name text = is_name text && list_all is_site_byte text

-- how many nodes a site may have
abbrev pub is_node_count : ℕ → Bool
is_node_count n = nat_le 1 n && nat_le n MAX_NODES

-- what makes a list of sites a roster
pub record IsRoster (sites : List (List ℕ × ℕ)) : Type 0 where
  pub at_least : 1 ≤ length sites
  pub at_most : length sites ≤ SITES
  pub named : All (λ s. IsTrue (is_site_name s.0)) sites
  pub apart : AllPairs (λ s t. s.0 ≢ t.0) sites
  pub counted : All (λ s. IsTrue (is_node_count s.1)) sites

-- the name and the number of nodes of the site at an index
abbrev pub name_at : List (List ℕ × ℕ) → ℕ → List ℕ
name_at sites k = (slice_index_or sites k ([], 0)).0

abbrev pub nodes_at : List (List ℕ × ℕ) → ℕ → ℕ
nodes_at sites k = (slice_index_or sites k ([], 0)).1

-- the site at an index has this name
abbrev pub is_named : List (List ℕ × ℕ) → List ℕ → ℕ → Bool
is_named sites name k = pointwise nat_eq (name_at sites k) name

-- the name at an index is not of a site name's form
abbrev pub is_misnamed : List (List ℕ × ℕ) → ℕ → Bool
is_misnamed sites k = not (is_site_name (name_at sites k))

-- an earlier site has the name too
abbrev pub is_repeated : List (List ℕ × ℕ) → ℕ → Bool
is_repeated sites k = is_some (least_index (is_named sites (name_at sites k)) k)

-- no site may have this number of nodes
abbrev pub has_wrong_nodes : List (List ℕ × ℕ) → ℕ → Bool
has_wrong_nodes sites k = not (is_node_count (nodes_at sites k))

-- the fault of the least number, and of it the one of the least index
unfoldable pub first_fault : List (List ℕ × ℕ) → Option RosterFault
first_fault sites =
    if nat_le 1 (length sites) && nat_le (length sites) SITES then
    option_or (option_map Name (least_index (is_misnamed sites) (length sites)))
    (option_or (option_map Twice (least_index (is_repeated sites) (length sites)))
    (option_map Nodes (least_index (has_wrong_nodes sites) (length sites))))
    else Some Count

abbrev pub number_of : RosterFault → ℕ
number_of Count = 1
number_of (Name i) = 2
number_of (Twice i) = 3
number_of (Nodes i) = 4

-- the value, unless there is a fault
abbrev pub ok_unless : {T E : Type 0} → Option E → T → Result T E
ok_unless None x = Ok x
ok_unless (Some e) x = Err e

-- the sites that a slice of names and numbers lists
abbrev pub sites_of : List (Bor (List ℕ) × ℕ) → List (List ℕ × ℕ)
sites_of pairs = map (λ s. (s.0.now, s.1)) pairs

-- as a roster is stored: a place for each site that may be, the sites in the first of them
abbrev pub places : List (List ℕ × ℕ) → List (Option (List ℕ × ℕ))
places sites = map Some sites ++ replicate (SITES - length sites) None

abbrev pub sites_in : List (Option (List ℕ × ℕ)) → List (List ℕ × ℕ)
sites_in stored = filter_map (λ s. s) stored
