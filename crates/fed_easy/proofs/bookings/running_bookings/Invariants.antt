use Rattle.std.proofs.Common.{◌≡◌, map, take}
use Rattle.fed_easy.specs.SitePlan.{running_booking}
use Rattle.fed_easy.proofs.bookings.running_bookings.Given as goal

abbrev pub invariant-loop-entry : goal.invariant-loop-entry
invariant-loop-entry l = l.bookings.items ≡ map (running_booking l.now) (take l.entry-index l.running)
