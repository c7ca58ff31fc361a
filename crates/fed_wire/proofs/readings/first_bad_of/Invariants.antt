use Rattle.std.proofs.Common.{◌≡◌, map, drop}
use Rattle.serde_json.specs.View.{view}
use Rattle.fed_wire.specs.Reading.{first_bad}
use Rattle.fed_wire.proofs.readings.first_bad_of.Given as goal

abbrev pub invariant-loop-site : goal.invariant-loop-site
invariant-loop-site l = first_bad l.site (map view (drop l.site l.values)) ≡ first_bad 0 (map view l.values)
