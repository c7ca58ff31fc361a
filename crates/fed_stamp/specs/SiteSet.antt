-- A set of sites is seen as the list that says of each site, by its number, whether the set has it.
use Rattle.std.specs.Prelude.{ℕ, Bool, true, false, ◌&&◌, nat_eq, nat_lt, List, slice_index_or, slice_set, map}
use Rattle.std.specs.List.{list_any, range_with_len}
use Rattle.fed_stamp.specs.declared.sites.TheConstants.{SITES}

-- the site, one that may be, is in the set
abbrev pub has : List Bool → ℕ → Bool
has set site = nat_lt site SITES && slice_index_or set site false

-- the list contains the site
abbrev pub is_listed : List ℕ → ℕ → Bool
is_listed sites site = list_any (nat_eq site) sites

-- of all sites those that the list contains
unfoldable pub set_of : List ℕ → List Bool
set_of sites = map (is_listed sites) (range_with_len 0 SITES)

-- the set, with the site too
abbrev pub with_site : List Bool → ℕ → List Bool
with_site set site = slice_set set site true
