use Rattle.std.specs.List.{list_any}
use Rattle.std.specs.Map.{values_of}
use Rattle.std.specs.Map.Iter.{deref_pair}
use Rattle.std.proofs.Common.{◌≡◌, All, IsSome, List, sym, ap, subst, ◌∙◌}
use Rattle.std.proofs.lemmas.Map.Iter.{rest_more}
use Rattle.fed_stamp.specs.Stamp.{StampValue}
use Rattle.fed_model.specs.Reservation.{ReservationView}
use Rattle.fed_delta.proofs.CutLoops.{first_made, rest_made}
use Rattle.fed_replica.specs.Retiring.{is_open_reservation}
use Rattle.fed_replica.proofs.Unsettled.{any_first, any_rest}
use Rattle.fed_replica.proofs.retire_steps.has_open_reservation.Goals as goal

pub loop-id-init : goal.loop-id-init
loop-id-init c =
    let all : c.into_iter-id-iterator.result ≡ c.args.board.now.reservations = c.into_iter-id-iterator.ensures.into_iter_gives ∙ c.reservations-id-items.ensures.entries in
    record {
      left = ap (λ (es : List (StampValue × ReservationView)). list_any (is_open_reservation c.args.here c.args.first c.args.last) es) all;
      made = subst (λ (es : List (StampValue × ReservationView)). All IsSome (values_of es)) (sym all) c.reservations-id-items.ensures.made;
    }

pub is_open-requires : goal.is_open-requires
is_open-requires c = first_made _ _ _ _ c.loop-id.invariant.made (rest_more deref_pair _ _ _ _ c.in-Some.is c.next.ensures.steps)

pub returns-then-is_open : goal.returns-then-is_open
returns-then-is_open c =
    any_first (is_open_reservation c.args.here c.args.first c.args.last) _ _ _ _ c.loop-id.invariant.left (rest_more deref_pair _ _ _ _ c.in-Some.is c.next.ensures.steps) (sym c.is_open.ensures ∙ c.if-is_open.true)

pub loop-id-preserved : goal.loop-id-preserved
loop-id-preserved c =
    let first = rest_more deref_pair _ _ _ _ c.in-Some.is c.next.ensures.steps in
    record {
      left = any_rest (is_open_reservation c.args.here c.args.first c.args.last) _ _ _ _ c.loop-id.invariant.left first (sym c.is_open.ensures ∙ c.if-is_open.false);
      made = rest_made _ _ _ _ c.loop-id.invariant.made first;
    }
