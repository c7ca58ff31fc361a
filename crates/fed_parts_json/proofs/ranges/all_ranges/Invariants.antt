use Rattle.std.proofs.Common.{◌≡◌, map, drop}
use Rattle.serde_json.specs.View.{view}
use Rattle.fed_json.specs.Values.{all_of}
use Rattle.fed_parts_json.specs.Retirements.{range_of}
use Rattle.fed_json.proofs.ListLaws.{after}
use Rattle.fed_parts_json.proofs.ranges.all_ranges.Given as goal

abbrev pub invariant-loop-value : goal.invariant-loop-value
invariant-loop-value l = after l.in_range l.ranges.items (all_of range_of (map view (drop l.value-index l.values))) ≡ all_of range_of (map view l.values)
