-- What is retired of all sites: a table of what each has retired, by its number.
use Rattle.std.specs.Prelude.{ℕ, Bool, List, map}
use Rattle.std.specs.List.{range_with_len}
use Rattle.std.specs.Ordering.{nat_cmp}
use Rattle.fed_stamp.specs.declared.sites.TheConstants.{SITES}
use Rattle.fed_stamp.specs.Stamp.{StampValue}
use Rattle.fed_lattice.specs.Table.{value_at}
use Rattle.fed_ranges.specs.Ranges.{has}
use Rattle.fed_ranges.specs.Retirements.{RetirementsValue, no_retirements}

abbrev pub RetiredValue : Type 0
RetiredValue = List (ℕ × RetirementsValue)

-- what the site has retired
abbrev pub retired_at : RetiredValue → ℕ → RetirementsValue
retired_at r site = value_at nat_cmp no_retirements r site

-- the identifier is retired: its counter is in a range of its site
abbrev pub has_retired : RetiredValue → StampValue → Bool
has_retired r id = has (retired_at r id.site).ranges id.counter

-- For each site the counter of its latest Retire, or 0. It is unfolded only where it is asked for, since its 16 counters
-- would stand in every goal about a board
unfoldable pub latest_retires : RetiredValue → List ℕ
latest_retires r = map (λ site. (retired_at r site).latest) (range_with_len 0 SITES)
