-- Changes that are read together with their stamps.
use Rattle.std.specs.Prelude.{map, Option, option_map}
use Rattle.fed_stamp.specs.Stamp.{StampValue}
use Rattle.fed_lattice.specs.History.{History}

-- the value beside the stamp
abbrev pub with_stamp : {T : Type 0} → StampValue → Option T → Option (StampValue × T)
with_stamp {T} s o = option_map (λ (t : T). (s, t)) o

-- each change says its stamp, too
abbrev pub stamped : {C : Type 0} → History C → History (StampValue × C)
stamped {C} h = map (λ (e : StampValue × C). (e.0, e)) h
