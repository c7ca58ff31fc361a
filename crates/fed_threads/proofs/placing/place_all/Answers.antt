use Rattle.std.proofs.Common.{◌≡◌, ◌<◌, ◌+◌, ◌∙◌, length, get_or, arith}
use Rattle.std.proofs.Math.ListN.{length-set}
use Rattle.std.proofs.lemmas.List.{length-map}
use Rattle.std.specs.Global.{Vec}
use Rattle.fed_threads.specs.declared.journal.Claim.{Claim}
use Rattle.fed_threads.specs.Placing.{entries_of, claims_of}
use Rattle.fed_threads.specs.Cursors.{IsLeastNext}
use Rattle.fed_threads.proofs.Cursors.{cursors_next, next_inside}
use Rattle.fed_threads.proofs.Filling.{goes_on, falls, ends, item_is}
use Rattle.fed_threads.proofs.Ready.{ready_inside}
use Rattle.fed_threads.proofs.placing.place_all.Goals as goal

pub loop-next-preserved : goal.loop-next-preserved
loop-next-preserved c =
    let h : IsLeastNext (entries_of c.args.journals.now) (claims_of c.args.seats.now) c.loop-next.placed.items c.loop-next.cursors.items c.in-Some.next.site c.in-Some.next.seat =
    rw (c.as_slice.ensures.value, c.as_slice-in-loop-next.ensures.value) at c.in-Some.ensures in
    let site : c.in-Some.next.site < length c.loop-next.placed.items = omega (arith, c.loop-next.invariant.under_way.count, h.inside) in
    let seat : c.in-Some.next.seat < length c.loop-next.cursors.items =
    omega (
      arith,
      c.loop-next.invariant.seats,
      length-map c.args.seats.now (λ (v : Vec Claim). v.items),
      next_inside (claims_of c.args.seats.now) c.loop-next.placed.items c.loop-next.cursors.items c.in-Some.next.site c.in-Some.next.seat h.next.claims,
    ) in
    let n : c.index_mut.result.now ≡ get_or c.loop-next.placed.items c.in-Some.next.site 0 =
    item_is c.loop-next.placed.items c.in-Some.next.site c.index_mut.result.now site c.index_mut.ensures.value in
    let m : c.index_mut-in-Some.result.now ≡ get_or c.loop-next.cursors.items c.in-Some.next.seat 0 =
    item_is c.loop-next.cursors.items c.in-Some.next.seat c.index_mut-in-Some.result.now seat c.index_mut-in-Some.ensures.value in
    rw (c.in_ok-push.ensures.items, n, m) (record {
      under_way = goes_on (entries_of c.args.journals.now) (claims_of c.args.seats.now) c.loop-next.placed.items c.loop-next.sites.items c.loop-next.invariant.under_way c.in-Some.next.site h.next.ready h.least;
      cursors = cursors_next (claims_of c.args.seats.now) c.loop-next.placed.items c.loop-next.cursors.items c.in-Some.next.site c.in-Some.next.seat
          (c.requires.claimed.once_at_most c.in-Some.next.site (get_or c.loop-next.placed.items c.in-Some.next.site 0)
          (ready_inside (entries_of c.args.journals.now) (claims_of c.args.seats.now) c.loop-next.placed.items c.in-Some.next.site h.next.ready))
          h.next.claims site seat c.loop-next.invariant.cursors;
      seats = length-set c.loop-next.cursors.items c.in-Some.next.seat (get_or c.loop-next.cursors.items c.in-Some.next.seat 0 + 1) ∙ c.loop-next.invariant.seats;
    })

pub loop-next-smaller : goal.loop-next-smaller
loop-next-smaller c =
    let h : IsLeastNext (entries_of c.args.journals.now) (claims_of c.args.seats.now) c.loop-next.placed.items c.loop-next.cursors.items c.in-Some.next.site c.in-Some.next.seat =
    rw (c.as_slice.ensures.value, c.as_slice-in-loop-next.ensures.value) at c.in-Some.ensures in
    let site : c.in-Some.next.site < length c.loop-next.placed.items = omega (arith, c.loop-next.invariant.under_way.count, h.inside) in
    let n : c.index_mut.result.now ≡ get_or c.loop-next.placed.items c.in-Some.next.site 0 =
    item_is c.loop-next.placed.items c.in-Some.next.site c.index_mut.result.now site c.index_mut.ensures.value in
    rw n (falls (entries_of c.args.journals.now) (claims_of c.args.seats.now) c.loop-next.placed.items c.loop-next.sites.items c.loop-next.invariant.under_way c.in-Some.next.site h.next.ready)

pub returns-clause-placing : goal.returns-clause-placing
returns-clause-placing c =
    ends (entries_of c.args.journals.now) (claims_of c.args.seats.now) c.loop-next.placed.items c.loop-next.sites.items c.loop-next.invariant.under_way
    (rw c.as_slice.ensures.value at c.in_default.ensures)
