use Rattle.std.specs.Prelude.{None}
use Rattle.std.proofs.Common.{subst, sym}
use Rattle.fed_model.specs.declared.outcomes.Outcome.{Outcome}
use Rattle.fed_threads.specs.declared.journal.Asked.TheVariants.{Ship}
use Rattle.fed_threads.specs.Replay.{Appends}
use Rattle.fed_threads.specs.Seat.{known_by}
use Rattle.fed_threads.proofs.Steps.{steps}
use Rattle.fed_threads.proofs.CallFaults.{behind, wanting}
use Rattle.fed_threads.proofs.calls.ship_in.Goals as goal

pub returns-clause-ok : goal.returns-clause-ok
returns-clause-ok c =
    steps c.args.locked.now c.ship.new.self (known_by c.args.seat.now) (known_by c.reserve.new.self) (known_by c.claim.new.self)
    c.args.site c.len-place.result c.version.result c.version-2.result (Ship c.args.site c.args.to) None (Outcome.Packet c.len-place.result)
    (subst (λ n. Appends c.args.locked.now c.ship.new.self (Ship c.args.site c.args.to) None (Outcome.Packet n)) (sym c.len-place.ensures) c.in_ok-packet.ensures.ok)
    tt c.len-place.ensures c.version.ensures.value c.version.ensures.counters c.version-2.ensures.value c.in_ok-check.ensures.ok c.reserve.ensures.same c.claim.ensures

pub returns-in_err-check-clause-behind : goal.returns-in_err-check-clause-behind
returns-in_err-check-clause-behind c =
    behind c.args.locked.now (known_by c.args.seat.now) c.args.site c.len-place.result c.version.result c.len-place.ensures c.version.ensures.value c.from_residual.result c.in_err-check.field-0.0 c.in_err-check.ensures.err c.from_residual.ensures.1

pub returns-in_err-reserve-clause-behind : goal.returns-in_err-reserve-clause-behind
returns-in_err-reserve-clause-behind c =
    wanting c.args.locked.now (known_by c.args.seat.now) c.args.site c.len-place.result c.version.result c.len-place.ensures c.version.ensures.value c.from_residual-in_err-reserve.result c.in_ok-check.ensures.ok c.from_residual-in_err-reserve.ensures.1

pub returns-in_err-packet-clause-behind : goal.returns-in_err-packet-clause-behind
returns-in_err-packet-clause-behind c =
    wanting c.args.locked.now (known_by c.args.seat.now) c.args.site c.len-place.result c.version.result c.len-place.ensures c.version.ensures.value c.from_residual-in_err-packet.result c.in_ok-check.ensures.ok c.from_residual-in_err-packet.ensures.1
