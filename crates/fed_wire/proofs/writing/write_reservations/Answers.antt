use Rattle.std.proofs.Common.{IsSome}
use Rattle.std.proofs.lemmas.Map.Iter.{rest_more}
use Rattle.std.specs.Map.Iter.{deref_pair}
use Rattle.fed_wire.specs.Reservations.{reservation_value}
use Rattle.fed_wire.proofs.WriteLaws.{rest_holds, pushed_value}
use Rattle.fed_wire.proofs.writing.write_reservations.Goals as goal

pub loop-id-preserved : goal.loop-id-preserved
loop-id-preserved c =
    let first = rest_more deref_pair _ _ _ _ c.in-Some.is c.next.ensures.steps in
    record {
      left = pushed_value _ _ _ _ first reservation_value c.loop-id.values.items c.push.new.self.items c.in_ok-write_reservation.field-0 _ c.loop-id.invariant.left c.in_ok-write_reservation.ensures c.in_ok-push.ensures.items;
      made = rest_holds _ _ _ _ first IsSome c.loop-id.invariant.made;
    }
