-- Which identifiers a range of one site is of.
use Rattle.std.specs.Prelude.{ℕ, Bool, ◌&&◌, ◌==◌}
use Rattle.fed_stamp.specs.Stamp.{StampValue}
use Rattle.fed_ranges.specs.declared.ranges.Range.{Range}
use Rattle.fed_ranges.specs.Ranges.{is_in}

abbrev pub is_of_range : ℕ → Range → StampValue → Bool
is_of_range site range id = (site == id.site) && is_in range id.counter
