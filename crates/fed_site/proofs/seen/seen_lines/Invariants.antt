use Rattle.std.proofs.Common.{◌≡◌, flat_map, string_bytes}
use Rattle.std.specs.List.{range_with_len}
use Rattle.fed_replica.specs.State.{state_of}
use Rattle.fed_site.specs.Seen.{line_of_seen}
use Rattle.fed_site.proofs.seen.seen_lines.Given as goal

abbrev pub invariant-loop-number : goal.invariant-loop-number
invariant-loop-number l = string_bytes l.text ≡ flat_map (line_of_seen l.roster (state_of l.replica)) (range_with_len 0 l.number)
