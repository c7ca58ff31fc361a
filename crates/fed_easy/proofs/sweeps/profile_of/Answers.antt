use Rattle.std.proofs.Common.{◌≡◌, ◌-◌, ◌<◌, List, length, arith, sym, ◌∙◌, slice_index_or}
use Rattle.fed_easy.specs.declared.use_changes.UseChange.{UseChange}
use Rattle.fed_easy.proofs.Sweep.{event_more, event_same, first_more, swept_all}
use Rattle.fed_easy.proofs.sweeps.profile_of.Goals as goal
use Rattle.fed_easy.proofs.sweeps.profile_of.Goals.{then-event-first+in_ok-push, else-event-first}

pub loop-i-preserved : goal.loop-i-preserved
loop-i-preserved c =
    let xs : List UseChange = c.in_ok-events.events.items in
    let e : UseChange = c.index-event.result.now in
    let inv = c.loop-i.invariant in
    let count : c.len-count.result ≡ length xs = inv.count in
    let lt : c.loop-i.i < length xs = omega (arith, c.loop-i-test.true, inv.count) in
    let at : e ≡ slice_index_or xs (length xs - 1 - c.loop-i.i) e = rw count at c.index-event.ensures in
    let all : slice_index_or xs (length xs - 1 - c.loop-i.i) e ≡ e = sym at in
    let behind : c.args.start < e.second = rw all at (c.in_ok-events.ensures.events.after (length xs - 1 - c.loop-i.i) e (omega arith)) in
    let up = c.in_ok-events.ensures.ascending in
    elim c.if-event-first.branch [
      | then-event-first+in_ok-push w ↦ rw (w.steps-is, w.first-is, c.level-nodes.ensures, c.from-closed.ensures, c.from-opened.ensures) (record {
        count = inv.count;
        closed = omega arith;
        opened = omega arith;
        swept = event_more xs c.loop-i.i e lt at up c.args.capacity c.args.start c.loop-i.closed c.loop-i.opened c.loop-i.nodes c.loop-i.first c.loop-i.steps.items behind inv.swept inv.first
            w.if-event-first.true w.push.new.self.items w.in_ok-push.ensures.items;
        first = sym (first_more xs c.loop-i.i e lt at);
      })
      | else-event-first w ↦ rw (w.steps-is, w.first-is, c.level-nodes.ensures, c.from-closed.ensures, c.from-opened.ensures) (record {
        count = inv.count;
        closed = omega arith;
        opened = omega arith;
        swept = event_same xs c.loop-i.i e lt at up c.args.capacity c.args.start c.loop-i.closed c.loop-i.opened c.loop-i.nodes c.loop-i.first c.loop-i.steps.items behind inv.swept inv.first
            w.if-event-first.false;
        first = sym (first_more xs c.loop-i.i e lt at ∙ w.if-event-first.false);
      })
    ]

pub returns-clause-tells : goal.returns-clause-tells
returns-clause-tells c =
    swept_all c.args.capacity c.args.start c.loop-i.i c.loop-i.closed c.loop-i.opened c.loop-i.nodes c.args.bookings.now c.in_ok-events.events.items c.loop-i.steps.items c.reverse.new.self.items c.loop-i.invariant.swept
    (omega (arith, c.loop-i-test.false, c.loop-i.invariant.count)) c.in_ok-events.ensures.events c.reverse.ensures.items
