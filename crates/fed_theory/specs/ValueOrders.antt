-- The orders of the values of a job's fields, of its Begin and Finish, and of a reservation's window.
use Rattle.std.specs.Prelude.{ℕ, List, Option}
use Rattle.std.specs.declared.cmp.Ordering.{Ordering}
use Rattle.std.specs.Option.{option_cmp}
use Rattle.std.specs.Ordering.{nat_cmp, ordering_then}
use Rattle.std.specs.Cmp.Lexicographic.{slice_cmp}
use Rattle.fed_model.specs.declared.beginnings.Beginning.{Beginning}
use Rattle.fed_model.specs.declared.beginnings.Ending.{Ending}
use Rattle.fed_model.specs.declared.windows.Window.{Window}

-- names by their texts
abbrev pub name_cmp : List ℕ → List ℕ → Ordering
name_cmp = slice_cmp nat_cmp

-- the empty account is below every name
abbrev pub account_cmp : Option (List ℕ) → Option (List ℕ) → Ordering
account_cmp = option_cmp name_cmp

abbrev pub beginning_cmp : Beginning → Beginning → Ordering
beginning_cmp a b = ordering_then (nat_cmp a.moment b.moment)
    (ordering_then (nat_cmp a.nodes b.nodes) (nat_cmp a.end b.end))

abbrev pub ending_cmp : Ending → Ending → Ordering
ending_cmp a b = ordering_then (nat_cmp a.moment b.moment) (nat_cmp a.status b.status)

abbrev pub window_cmp : Window → Window → Ordering
window_cmp a b = ordering_then (nat_cmp a.site b.site)
    (ordering_then (nat_cmp a.start b.start) (ordering_then (nat_cmp a.end b.end) (nat_cmp a.nodes b.nodes)))

-- no window, which is that of a cancelled reservation, is below every window
abbrev pub option_window_cmp : Option Window → Option Window → Ordering
option_window_cmp = option_cmp window_cmp
