-- Lines of a site that carry a packet.
use Rattle.std.specs.Prelude.{ℕ, not, ◌&&◌, nat_eq, List, drop, codes, Option, Some, None, if◌then◌else◌}
use Rattle.std.specs.List.{list_any, starts_with}

-- `take TEXT`, `take from NAME TEXT`: what stands behind `take`. A packet's text has no line feed
abbrev pub packet_text : List ℕ → Option (List ℕ)
packet_text line = if starts_with nat_eq line (codes "take ") && not (list_any (nat_eq 10) line)
    then Some (drop 5 line) else None
