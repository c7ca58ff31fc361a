use Rattle.std.proofs.Common.{◌≡◌, ◌++◌, map}
use Rattle.serde_json.specs.View.{view}
use Rattle.fed_site.specs.MachineJson.{reserved_data}
use Rattle.fed_site.proofs.machine_objects.reserved_values.Given as goal

abbrev pub invariant-loop-reserved : goal.invariant-loop-reserved
invariant-loop-reserved l = map view l.values.items ++ map (reserved_data l.roster) l.reserved-iterator ≡ map (reserved_data l.roster) l.all.keys
