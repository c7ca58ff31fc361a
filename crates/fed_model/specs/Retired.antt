-- Identifiers that are retired, of jobs and of reservations: their origin keeps nothing of them any more, and no site
-- does that has heard of it.
use Rattle.std.specs.Prelude.{ℕ, suc, Bool, true, false, not, ◌&&◌, ◌==◌, nat_le, filter}
use Rattle.std.specs.List.{list_any}
use Rattle.fed_stamp.specs.Stamp.{StampValue}
use Rattle.fed_lattice.specs.History.{History}
use Rattle.fed_model.specs.Body.{Body, Body.Retire}

-- the counter is one of the range, whose ends are in it
abbrev pub is_within : ℕ → ℕ → ℕ → Bool
is_within first last counter = nat_le first counter && nat_le counter last

-- a Retire is of identifiers of the site where it is made: of those with counters in its range
abbrev pub retires : StampValue → StampValue × Body → Bool
retires id (t, Retire first last) = (t.site == id.site) && is_within first last id.counter
retires id (t, _) = false

-- the identifier is in the range of some Retire of its origin
abbrev pub is_retired : History Body → StampValue → Bool
is_retired ops id = list_any (retires id) ops

abbrev pub is_retire : StampValue × Body → Bool
is_retire (t, Retire first last) = true
is_retire (t, _) = false

-- the Retires among the operations
abbrev pub retires_in : History Body → History Body
retires_in ops = filter is_retire ops

-- the identifier with the next counter
abbrev pub following : StampValue → StampValue
following id = record { counter = suc id.counter; site = id.site }

-- a range of retired identifiers starts after this one
abbrev pub starts : (StampValue → Bool) → StampValue → Bool
starts retired id = not (retired id) && retired (following id)
