use Rattle.std.proofs.Common.{◌≡◌}
use Rattle.std.specs.List.{list_all}
use Rattle.std.specs.Map.{keys_of}
use Rattle.fed_wire.specs.Packet.{keeps}
use Rattle.fed_wire.proofs.retired.keeps.Given as goal

abbrev pub invariant-loop-id : goal.invariant-loop-id
invariant-loop-id g l = list_all (keeps (l.site, l.retirements)) (keys_of l.id-iterator) ≡ list_all (keeps (l.site, l.retirements)) (keys_of l.table)
