use Rattle.std.specs.Prelude.{Some}
use Rattle.fed_replica.specs.Outcome.{outcome_of_received}
use Rattle.fed_threads.specs.declared.journal.Asked.TheVariants.{Take}
use Rattle.fed_threads.specs.Seat.{known_by}
use Rattle.fed_threads.proofs.Steps.{named_received, steps}
use Rattle.fed_threads.proofs.CallFaults.{behind, wanting}
use Rattle.fed_threads.proofs.calls.take_in.Goals as goal

pub returns-clause-ok : goal.returns-clause-ok
returns-clause-ok c =
    steps c.args.locked.now c.take.new.self (known_by c.args.seat.now) (known_by c.reserve.new.self) (known_by c.claim.new.self)
    c.args.site c.len-index.result c.version.result c.version-2.result (Take c.args.site c.args.parcel.sender c.args.parcel.place) (Some c.args.parcel.packet) (outcome_of_received c.in_ok-received.received)
    c.in_ok-received.ensures.ok (named_received c.in_ok-received.received) c.len-index.ensures c.version.ensures.value c.version.ensures.counters c.version-2.ensures.value c.in_ok-check.ensures.ok c.reserve.ensures.same
    (rw (← c.outcome.ensures) c.claim.ensures)

pub returns-in_err-check-clause-behind : goal.returns-in_err-check-clause-behind
returns-in_err-check-clause-behind c =
    behind c.args.locked.now (known_by c.args.seat.now) c.args.site c.len-index.result c.version.result c.len-index.ensures c.version.ensures.value c.from_residual.result c.in_err-check.field-0.0 c.in_err-check.ensures.err c.from_residual.ensures.1

pub returns-in_err-reserve-clause-behind : goal.returns-in_err-reserve-clause-behind
returns-in_err-reserve-clause-behind c =
    wanting c.args.locked.now (known_by c.args.seat.now) c.args.site c.len-index.result c.version.result c.len-index.ensures c.version.ensures.value c.from_residual-in_err-reserve.result c.in_ok-check.ensures.ok c.from_residual-in_err-reserve.ensures.1

pub returns-in_err-received-clause-behind : goal.returns-in_err-received-clause-behind
returns-in_err-received-clause-behind c =
    wanting c.args.locked.now (known_by c.args.seat.now) c.args.site c.len-index.result c.version.result c.len-index.ensures c.version.ensures.value c.from_residual-in_err-received.result c.in_ok-check.ensures.ok c.from_residual-in_err-received.ensures.1
