use Rattle.std.proofs.Common.{rules}
use Rattle.std.proofs.lemmas.List.{take_all, take_more}
use Rattle.std.proofs.lemmas.List.Sorted.{IsNonDecreasingBy-from_sort_by_key}
use Rattle.fed_easy.proofs.EventSums.{permuted_events}
use Rattle.fed_easy.proofs.use_changes.events_of.Goals as goal

pub loop-booking-preserved : goal.loop-booking-preserved
loop-booking-preserved c =
    let more = take_more c.args.bookings.now c.loop-booking.booking-index (record { from = 0; until = 0; nodes = 0 }) c.loop-booking-test.true in
    rw more (c.in_ok-add_events.ensures _ c.loop-booking.invariant)

pub returns-clause-events : goal.returns-clause-events
returns-clause-events c =
    let all = take_all c.loop-booking.booking-index c.args.bookings.now c.loop-booking-test.false in
    permuted_events c.args.start c.args.bookings.now c.loop-booking.events.items c.sort_by_key.new.self.items c.in_ok-sort_by_key.ensures.permutation (rw all at c.loop-booking.invariant)

pub returns-clause-ascending : goal.returns-clause-ascending
returns-clause-ascending c = IsNonDecreasingBy-from_sort_by_key (λ e. e.second) _ c.in_ok-sort_by_key.ensures.sorted (λ a r q k. search rules)
