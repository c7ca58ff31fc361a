-- What is retired beyond a version, of what a board has retired.
use Rattle.std.specs.Prelude.{ℕ, nat_lt, Bool, List, filter}
use Rattle.fed_stamp.specs.Version.{counter_of}
use Rattle.fed_ranges.specs.Retired.{RetiredValue}
use Rattle.fed_ranges.specs.Retirements.{RetirementsValue}

-- the site's latest Retire is beyond the version
abbrev pub is_beyond : List ℕ → ℕ × RetirementsValue → Bool
is_beyond need e = nat_lt (counter_of need e.0) e.1.latest

-- what these sites have retired, whole
abbrev pub retired_beyond : List ℕ → RetiredValue → RetiredValue
retired_beyond need r = filter (is_beyond need) r
