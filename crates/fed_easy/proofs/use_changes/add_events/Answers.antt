use Rattle.std.proofs.Common.{arith}
use Rattle.fed_easy.proofs.EventSums.{begun_events, later_events, over_events}
use Rattle.fed_easy.proofs.use_changes.add_events.Goals as goal
use Rattle.fed_easy.proofs.use_changes.add_events.Goals.{then-start-booking+in_ok-push, else-start-booking}

pub returns-then-booking-max : goal.returns-then-booking-max
returns-then-booking-max c = λ bookings are. over_events c.args.start bookings c.args.booking c.args.events.now.items are (omega (arith, c.if-booking-max.true, c.max.ensures))

pub returns : goal.returns
returns c = λ bookings are.
    elim c.if-start-booking.branch [
      | then-start-booking+in_ok-push w ↦
          rw (c.in_ok-push-2.ensures.items, w.events-is, w.in_ok-push.ensures.items) (later_events c.args.start bookings c.args.booking c.args.events.now.items are w.if-start-booking.true (omega (arith, c.if-booking-max.false, c.max.ensures)))
      | else-start-booking w ↦
          rw (c.in_ok-push-2.ensures.items, w.events-is) (begun_events c.args.start bookings c.args.booking c.args.events.now.items are (omega (arith, w.if-start-booking.false)) (omega (arith, c.if-booking-max.false, c.max.ensures)))
    ]
