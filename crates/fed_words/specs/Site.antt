-- Names of sites.
use Rattle.std.specs.Prelude.{ℕ, List, length, Option, Err, if◌then◌else◌}
use Rattle.std.specs.Option.{ok_or}
use Rattle.fed_stamp.specs.Indexes.{least_index}
use Rattle.fed_stamp.specs.Roster.{is_named, is_site_name}
use Rattle.fed_words.specs.declared.faults.UsageFault.{UsageFault}
use Rattle.fed_words.specs.declared.faults.UsageFault.TheVariants.{UnknownSite}
use Rattle.fed_words.specs.Fault.{OrFault}

-- the site of the roster that has this name
abbrev pub site_named : List (List ℕ × ℕ) → List ℕ → Option ℕ
site_named roster name = least_index (is_named roster name) (length roster)

-- a name without the form of a site's name is this fault
abbrev pub site_in : UsageFault → List (List ℕ × ℕ) → List ℕ → OrFault ℕ
site_in malformed roster name =
    if is_site_name name then ok_or (site_named roster name) UnknownSite else Err malformed
