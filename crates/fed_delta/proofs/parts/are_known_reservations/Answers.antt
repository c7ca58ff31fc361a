use Rattle.std.proofs.Common.{refl, sym, ◌∙◌}
use Rattle.std.proofs.lemmas.Bool.{true≢false}
use Rattle.std.proofs.lemmas.Map.Iter.{rest_more}
use Rattle.std.specs.Map.Iter.{deref_pair}
use Rattle.fed_lattice.specs.ExactLaws.{exact_stamp}
use Rattle.fed_lattice.specs.Latest.{stamp_cmp}
use Rattle.fed_lattice.specs.LatestLaws.{stamp_total}
use Rattle.fed_board.specs.Board.{IsKnownReservation}
use Rattle.fed_delta.proofs.PartLaws.{at_each, each_at, left_more, left_none, left_not}
use Rattle.fed_delta.proofs.parts.are_known_reservations.Goals as goal

pub returns-then-not-is_known_reservation : goal.returns-then-not-is_known_reservation
returns-then-not-is_known_reservation c =
    let first = rest_more deref_pair _ _ _ _ c.in-Some.is c.next.ensures.steps in (
      λ e. cc,
      λ all. absurd (true≢false (sym (c.is_known_reservation.ensures.1
          (left_not (IsKnownReservation c.args.version.now) c.args.reservations.now _ _ _ _ c.loop-id.invariant first (each_at (IsKnownReservation c.args.version.now) stamp_cmp stamp_total exact_stamp c.args.reservations.now c.iter-id-items.ensures.well_formed.0 all)))
          ∙ c.if-not-is_known_reservation.true)),
    )

pub loop-id-preserved : goal.loop-id-preserved
loop-id-preserved c =
    let first = rest_more deref_pair _ _ _ _ c.in-Some.is c.next.ensures.steps in
    left_more (IsKnownReservation c.args.version.now) c.args.reservations.now _ _ _ _ c.loop-id.invariant first (c.is_known_reservation.ensures.0 c.if-not-is_known_reservation.false)

pub returns : goal.returns
returns c = (
  λ e. at_each (IsKnownReservation c.args.version.now) stamp_cmp stamp_total exact_stamp c.args.reservations.now (left_none (IsKnownReservation c.args.version.now) c.args.reservations.now _ c.loop-id.invariant c.in-None.ensures.steps.0),
  λ all. refl,
)
