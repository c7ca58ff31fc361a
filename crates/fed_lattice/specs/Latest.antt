-- Of stamped values the one with the greatest stamp.
use Rattle.std.specs.Prelude.{[], ◌∷◌, Bool, if◌then◌else◌, Option, Some, None}
use Rattle.std.specs.declared.cmp.Ordering.{Ordering}
use Rattle.std.specs.Ordering.{ordering_then, nat_cmp, is_lt}
use Rattle.fed_stamp.specs.Stamp.{StampValue}
use Rattle.fed_lattice.specs.Sets.{Has}
use Rattle.fed_lattice.specs.History.{History}
use Rattle.fed_lattice.specs.Order.{IsUpTo}

-- stamps are ordered by counter, then by site
abbrev pub stamp_cmp : StampValue → StampValue → Ordering
stamp_cmp s t = ordering_then (nat_cmp s.counter t.counter) (nat_cmp s.site t.site)

abbrev pub is_before : StampValue → StampValue → Bool
is_before s t = is_lt (stamp_cmp s t)

module _ {T : Type 0} where
  -- of two stamped values the one with the greater stamp
  abbrev pub later : Option (StampValue × T) → Option (StampValue × T) → Option (StampValue × T)
  later None q = q
  later (Some p) None = Some p
  later (Some p) (Some q) = if is_before p.0 q.0 then Some q else Some p

  -- the change with the greatest stamp
  abbrev pub latest : History T → Option (StampValue × T)
  latest [] = None
  latest (e ∷ h) = later (Some e) (latest h)

  -- p is a change, and no change has a greater stamp
  abbrev pub IsLatest : History T → StampValue × T → Type 0
  IsLatest h p = Has h p × ((e : StampValue × T) → Has h e → IsUpTo stamp_cmp e.0 p.0)
