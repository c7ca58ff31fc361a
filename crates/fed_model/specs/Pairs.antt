-- Tagged elements: an element beside the stamp of the operation that added it.
use Rattle.std.specs.Prelude.{ℕ, Bool, false, not, ◌&&◌, List, Option, Some, None}
use Rattle.std.specs.List.{list_any}
use Rattle.fed_stamp.specs.Stamp.{StampValue, same_stamp}
use Rattle.fed_stamp.specs.SiteSet.{has as has_site}
use Rattle.fed_lattice.specs.History.{History}
use Rattle.fed_model.specs.declared.holds.HoldKind.{HoldKind}
use Rattle.fed_model.specs.declared.holds.HoldKind.TheVariants.{User}
use Rattle.fed_model.specs.Hold.{has_kind}
use Rattle.fed_model.specs.Body.{Body, Body.Submit, Body.OfJob, JobBody.Set, JobBody.Hold, JobBody.Release}

-- `adds` says which elements an operation adds, `removes` which pairs it removes
module _ {C E : Type 0} (adds : C → E → Bool) (removes : C → E → StampValue → Bool) where
  abbrev pub adds_pair : E → StampValue → StampValue × C → Bool
  adds_pair element tag e = same_stamp e.0 tag && adds e.1 element

  abbrev pub removes_pair : E → StampValue → StampValue × C → Bool
  removes_pair element tag e = removes e.1 element tag

  -- a pair is live where the operation with its stamp adds the element and no operation removes the pair
  abbrev pub is_live : History C → E → StampValue → Bool
  is_live ops element tag = list_any (adds_pair element tag) ops && not (list_any (removes_pair element tag) ops)

-- a site that is among those named
abbrev pub is_site_named : Option (List Bool) → ℕ → Bool
is_site_named None site = false
is_site_named (Some sites) site = has_site sites site

-- the sites that an operation adds
abbrev pub adds_site : Body → ℕ → Bool
adds_site (Submit owner values held) site = has_site values.sites site
adds_site (OfJob job (Set changes removed)) site = is_site_named changes.sites site
adds_site _ site = false

-- the pairs of sites that it removes
abbrev pub removes_site : Body → ℕ → StampValue → Bool
removes_site (OfJob job (Set changes removed)) site tag = removed site tag
removes_site _ site tag = false

-- the holds that an operation adds: a Submit may add a user hold
abbrev pub adds_hold : Body → HoldKind → Bool
adds_hold (Submit owner values held) User = held
adds_hold (OfJob job (Hold kinds)) kind = has_kind kinds kind
adds_hold _ kind = false

-- the pairs of holds that it removes
abbrev pub removes_hold : Body → HoldKind → StampValue → Bool
removes_hold (OfJob job (Release removed)) kind tag = removed kind tag
removes_hold _ kind tag = false
