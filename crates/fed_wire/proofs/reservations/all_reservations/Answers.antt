use Rattle.std.specs.Map.{keys_of}
use Rattle.std.proofs.Common.{◌&&◌, Option, Some, None, IsSome, refl, sym, ◌∙◌}
use Rattle.serde_json.specs.View.{view}
use Rattle.fed_model.specs.declared.capacities.TheConstants.{MAX_RESERVATIONS}
use Rattle.fed_stamp.specs.Stamp.{StampValue}
use Rattle.fed_stamp.specs.Version.{covers}
use Rattle.fed_job_json.specs.Fields.{IsField}
use Rattle.fed_wire.specs.declared.faults.Part.TheVariants.{Reservations}
use Rattle.fed_wire.specs.Packet.{covers_window}
use Rattle.fed_wire.specs.Reservations.{Reserved, reservation_of}
use Rattle.fed_wire.proofs.ReadLoops.{more}
use Rattle.fed_wire.proofs.ReservationLaws.{reservation_form}
use Rattle.fed_wire.proofs.reservations.all_reservations.Goals as goal

is_set : {T : Type 0} (P : T → Type 0) (o : Option (StampValue × T)) → IsField P o → IsSome o
is_set P None h = absurd h
is_set P (Some f) h = refl

pub is_covered-requires : goal.is_covered-requires
is_covered-requires c =
    let t = (reservation_form).takes (view c.index-values-index.result) c.in-Ok.entry (sym c.read_reservation.ensures ∙ c.in-Ok.is) in
    is_set _ c.in-Ok.entry.1 t.1.1

pub loop-index-preserved : goal.loop-index-preserved
loop-index-preserved c =
    let fits = λ (r : Reserved). covers c.args.reached.now r.0 && covers_window c.args.reached.now r.1 in
    let t = more Reservations reservation_of MAX_RESERVATIONS fits c.args.values.now c.loop-index.index c.loop-index.reservations c.index-values-index.result _ c.loop-index-test.true c.index-values-index.is c.loop-index.invariant.read c.loop-index.invariant.many
    c.in-Ok.entry (sym c.in-Ok.is ∙ c.read_reservation.ensures) c.admit.new.self c.insert.new.self (sym (c.admit.ensures.admitted (keys_of c.loop-index.reservations) c.loop-index.invariant.ids) ∙ c.if-not-admit.false)
    (sym c.is_covered.ensures ∙ c.if-not-is_covered.false)
    (c.admit.ensures.kept c.if-not-admit.false (keys_of c.loop-index.reservations) c.loop-index.invariant.ids) c.in_ok-insert-in-Ok.ensures.inserted in
    record { many = t.many; ids = t.ids; read = t.read }
