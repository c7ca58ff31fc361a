use Rattle.std.proofs.Common.{◌≡◌, ◌<◌, ◌∙◌, [], length, get_or, true, false, sym, refl, arith, rules}
use Rattle.std.proofs.lemmas.List.{length-map}
use Rattle.std.specs.Global.{Vec}
use Rattle.fed_threads.specs.declared.journal.Claim.{Claim}
use Rattle.fed_threads.specs.Claimants.{rows_of}
use Rattle.fed_threads.specs.Placing.{claims_of, entries_of, take_allows}
use Rattle.fed_threads.proofs.Nexts.{seat_inside, ready_by}
use Rattle.fed_threads.proofs.Rows.{items_are}
use Rattle.fed_threads.proofs.placing.seat_of_next.Goals as goal

pub bounds-seats-seat : goal.bounds-seats-seat
bounds-seats-seat c =
    let found = rw c.deref.ensures.value at c.in_ok-entry.ensures.lookup in
    let h = seat_inside c.args.journals.now (claims_of c.args.seats.now) (rows_of c.args.claimants.now.rows.items) c.args.placed.now c.args.site c.in_ok-seat.seat c.index-journals-site.result
    c.requires.claimed c.requires.table (sym c.in_ok-seat.ensures) c.requires.inside c.index-journals-site.is found.3.0 in
    omega (arith, h, length-map c.args.seats.now (λ (v : Vec Claim). v.items))

pub bounds-cursors-seat : goal.bounds-cursors-seat
bounds-cursors-seat c =
    let found = rw c.deref.ensures.value at c.in_ok-entry.ensures.lookup in
    let h = seat_inside c.args.journals.now (claims_of c.args.seats.now) (rows_of c.args.claimants.now.rows.items) c.args.placed.now c.args.site c.in_ok-seat.seat c.index-journals-site.result
    c.requires.claimed c.requires.table (sym c.in_ok-seat.ensures) c.requires.inside c.index-journals-site.is found.3.0 in
    omega (arith, h, length-map c.args.seats.now (λ (v : Vec Claim). v.items), c.requires.seats)

pub offset_bounds-seats-seat : goal.offset_bounds-seats-seat
offset_bounds-seats-seat c =
    let found = rw c.deref.ensures.value at c.in_ok-entry.ensures.lookup in
    let h = seat_inside c.args.journals.now (claims_of c.args.seats.now) (rows_of c.args.claimants.now.rows.items) c.args.placed.now c.args.site c.in_ok-seat.seat c.index-journals-site.result
    c.requires.claimed c.requires.table (sym c.in_ok-seat.ensures) c.requires.inside c.index-journals-site.is found.3.0 in
    let k : c.in_ok-seat.seat < length c.args.seats.now = omega (arith, h, length-map c.args.seats.now (λ (v : Vec Claim). v.items)) in
    search rules

pub offset_bounds-cursors-seat : goal.offset_bounds-cursors-seat
offset_bounds-cursors-seat c =
    let found = rw c.deref.ensures.value at c.in_ok-entry.ensures.lookup in
    let h = seat_inside c.args.journals.now (claims_of c.args.seats.now) (rows_of c.args.claimants.now.rows.items) c.args.placed.now c.args.site c.in_ok-seat.seat c.index-journals-site.result
    c.requires.claimed c.requires.table (sym c.in_ok-seat.ensures) c.requires.inside c.index-journals-site.is found.3.0 in
    let k : c.in_ok-seat.seat < length c.args.cursors.now = omega (arith, h, length-map c.args.seats.now (λ (v : Vec Claim). v.items), c.requires.seats) in
    search rules

pub returns-then-claims_next : goal.returns-then-claims_next
returns-then-claims_next c =
    let found = rw c.deref.ensures.value at c.in_ok-entry.ensures.lookup in
    let h = seat_inside c.args.journals.now (claims_of c.args.seats.now) (rows_of c.args.claimants.now.rows.items) c.args.placed.now c.args.site c.in_ok-seat.seat c.index-journals-site.result
    c.requires.claimed c.requires.table (sym c.in_ok-seat.ensures) c.requires.inside c.index-journals-site.is found.3.0 in
    let k : c.in_ok-seat.seat < length c.args.seats.now = omega (arith, h, length-map c.args.seats.now (λ (v : Vec Claim). v.items)) in
    let claims : get_or (claims_of c.args.seats.now) c.in_ok-seat.seat [] ≡ c.as_slice.result.now =
    items_are c.args.seats.now c.in_ok-seat.seat c.index-seats-seat.result k c.index-seats-seat.is ∙ sym c.as_slice.ensures.value in
    let allows : true ≡ take_allows (entries_of c.args.journals.now) c.args.placed.now c.in_ok-entry.entry.now.asked = search rules in
    let next = rw (← claims) at c.if-claims_next.ensures.is in
    record {
      ready = ready_by c.args.journals.now (claims_of c.args.seats.now) (rows_of c.args.claimants.now.rows.items) c.args.placed.now c.args.site c.in_ok-seat.seat c.index-journals-site.result
          c.requires.claimed c.requires.table (sym c.in_ok-seat.ensures) c.requires.inside c.index-journals-site.is found.3.0
          c.args.cursors.now c.in_ok-entry.entry.now true found.1 c.requires.cursors allows next;
      claims = sym next;
      site_fits = omega (arith, found.3.0, c.index-journals-site.result.ok.0);
      seat_fits = c.if-claims_next.ensures.fits refl;
    }

pub returns-else-claims_next : goal.returns-else-claims_next
returns-else-claims_next c =
    let found = rw c.deref.ensures.value at c.in_ok-entry.ensures.lookup in
    let h = seat_inside c.args.journals.now (claims_of c.args.seats.now) (rows_of c.args.claimants.now.rows.items) c.args.placed.now c.args.site c.in_ok-seat.seat c.index-journals-site.result
    c.requires.claimed c.requires.table (sym c.in_ok-seat.ensures) c.requires.inside c.index-journals-site.is found.3.0 in
    let k : c.in_ok-seat.seat < length c.args.seats.now = omega (arith, h, length-map c.args.seats.now (λ (v : Vec Claim). v.items)) in
    let claims : get_or (claims_of c.args.seats.now) c.in_ok-seat.seat [] ≡ c.as_slice.result.now =
    items_are c.args.seats.now c.in_ok-seat.seat c.index-seats-seat.result k c.index-seats-seat.is ∙ sym c.as_slice.ensures.value in
    let allows : true ≡ take_allows (entries_of c.args.journals.now) c.args.placed.now c.in_ok-entry.entry.now.asked = search rules in
    let next = rw (← claims) at c.if-claims_next.ensures.is in
    ready_by c.args.journals.now (claims_of c.args.seats.now) (rows_of c.args.claimants.now.rows.items) c.args.placed.now c.args.site c.in_ok-seat.seat c.index-journals-site.result
    c.requires.claimed c.requires.table (sym c.in_ok-seat.ensures) c.requires.inside c.index-journals-site.is found.3.0
    c.args.cursors.now c.in_ok-entry.entry.now false found.1 c.requires.cursors allows next
