use Rattle.std.proofs.Common.{◌≡◌, map}
use Rattle.std.specs.List.{range_with_len}
use Rattle.serde_json.specs.View.{view}
use Rattle.fed_replica.specs.State.{state_of}
use Rattle.fed_site.specs.Seen.{seen_data}
use Rattle.fed_site.proofs.seen.seen_values.Given as goal

abbrev pub invariant-loop-number : goal.invariant-loop-number
invariant-loop-number l = map view l.values.items ≡ map (seen_data l.roster (state_of l.replica)) (range_with_len 0 l.number)
