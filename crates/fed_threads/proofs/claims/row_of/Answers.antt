use Rattle.std.proofs.Common.{◌≡◌, ◌<◌, ◌+◌, ◌++◌, ◌∷◌, [], List, length, take, get_or, sym, ap, subst, ◌∙◌, arith}
use Rattle.std.proofs.lemmas.List.{take_more, length-map, length-take-le}
use Rattle.std.specs.Global.{Vec}
use Rattle.fed_threads.specs.declared.journal.Claim.{Claim}
use Rattle.fed_threads.specs.Claimants.{AreClaimantsOf}
use Rattle.fed_threads.specs.Placing.{claims_of}
use Rattle.fed_threads.proofs.Rows.{items_are}
use Rattle.fed_threads.proofs.claims.row_of.Goals as goal

pub loop-seat-preserved : goal.loop-seat-preserved
loop-seat-preserved c =
    let seats = claims_of c.args.seats.now in
    let k = c.loop-seat.seat in
    let within : k < length (claims_of c.args.seats.now) = omega (arith, c.loop-seat-test.true, length-map c.args.seats.now (λ (v : Vec Claim). v.items)) in
    let item : get_or (claims_of c.args.seats.now) k [] ≡ c.as_slice.result.now =
    items_are c.args.seats.now k c.index-seats-seat.result c.loop-seat-test.true c.index-seats-seat.is ∙ sym c.as_slice.ensures.value in
    let more : take (k + 1) seats ≡ take k seats ++ c.as_slice.result.now ∷ [] =
    take_more seats k [] within ∙ ap (λ (x : List Claim). take k seats ++ x ∷ []) item in
    subst (λ (xs : List (List Claim)). AreClaimantsOf xs c.args.site c.args.count c.add_claims.new.row.items) (sym more)
    (c.add_claims.ensures (take k seats) c.args.count (length-take-le k seats (omega arith)) c.loop-seat.invariant)
