use Rattle.std.proofs.Common.{◌≡◌, ◌++◌, map}
use Rattle.serde_json.specs.View.{view}
use Rattle.fed_parts_json.specs.Retirements.{retirements_value}
use Rattle.fed_wire.proofs.writing.write_retired.Given as goal

abbrev pub invariant-loop-site : goal.invariant-loop-site
invariant-loop-site l = map view l.values.items ++ map retirements_value l.site-iterator ≡ map retirements_value l.delta.changes.retired
