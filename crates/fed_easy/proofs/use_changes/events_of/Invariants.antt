use Rattle.std.proofs.Common.{take}
use Rattle.fed_easy.specs.Events.{AreEvents}
use Rattle.fed_easy.proofs.use_changes.events_of.Given as goal

abbrev pub invariant-loop-booking : goal.invariant-loop-booking
invariant-loop-booking l = AreEvents l.start (take l.booking-index l.bookings) l.events.items
