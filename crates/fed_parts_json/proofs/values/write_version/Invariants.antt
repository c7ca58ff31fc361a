use Rattle.std.proofs.Common.{◌≡◌, map, take}
use Rattle.serde_json.specs.View.{view}
use Rattle.fed_json.specs.Numbers.{natural_value}
use Rattle.fed_parts_json.proofs.values.write_version.Given as goal

abbrev pub invariant-loop-number : goal.invariant-loop-number
invariant-loop-number l = map view l.counters.items ≡ map natural_value (take l.number l.version)
