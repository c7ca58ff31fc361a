use Rattle.std.proofs.Common.{[], map, drop}
use Rattle.std.specs.Map.{keys_of}
use Rattle.serde_json.specs.View.{view}
use Rattle.fed_parts_json.specs.Retirements.{retirements_of}
use Rattle.fed_wire.specs.declared.faults.Part.TheVariants.{Retired}
use Rattle.fed_wire.specs.Packet.{site_stands}
use Rattle.fed_wire.specs.Reading.{each_in}
use Rattle.fed_wire.proofs.RetiredLoops.{AreRead}
use Rattle.fed_wire.proofs.retired.all_sites.Given as goal

abbrev pub invariant-loop-index : goal.invariant-loop-index
invariant-loop-index l =
    AreRead l.last l.retired l.index (each_in Retired retirements_of (site_stands l.reached (keys_of l.jobs) (keys_of l.reservations)) l.retired (map view (drop l.index l.values)))
    (each_in Retired retirements_of (site_stands l.reached (keys_of l.jobs) (keys_of l.reservations)) [] (map view l.values))
