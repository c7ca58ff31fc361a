use Rattle.std.proofs.Common.{◌≡◌, map, take}
use Rattle.serde_json.specs.View.{view}
use Rattle.fed_parts_json.specs.Retirements.{range_value}
use Rattle.fed_parts_json.proofs.written_ranges.write_ranges.Given as goal

abbrev pub invariant-loop-range : goal.invariant-loop-range
invariant-loop-range l = map view l.values.items ≡ map range_value (take l.range-index l.range-items)
