use Rattle.std.proofs.Common.{◌≡◌, ◌<◌, ◌≤◌, arith, false, sym, ap, ◌∙◌}
use Rattle.std.proofs.lemmas.Bool.{both_ways, eqb-true, eq-eqb}
use Rattle.std.proofs.lemmas.List.{append-nil}
use Rattle.std.proofs.lemmas.Map.Iter.{rest_more}
use Rattle.std.specs.Map.{keys_of}
use Rattle.std.specs.Map.Iter.{deref_pair}
use Rattle.fed_board.specs.Retiring.{is_of_range}
use Rattle.fed_board.proofs.RetiringLoops.{before, elsewhere, of_range, sorted_rest, taken_all, taken_more, taken_skip}
use Rattle.fed_board.proofs.retiring.ids_within.Goals as goal
use Rattle.fed_board.proofs.retiring.ids_within.Goals.{else-eq-via-then-eq+else-range-counter-2, else-eq-via-else-eq}

pub returns-then-range-counter : goal.returns-then-range-counter
returns-then-range-counter g c =
    let first = ap keys_of (rest_more deref_pair _ _ _ _ c.in-Some.is c.next.ensures.steps) in
    let same = c.counter.ensures.same in
    let far : c.args.range.last < c.in-Some.id.now.counter = omega arith in
    sym (append-nil c.loop-id.ids.items)
    ∙ taken_all c.args.site c.args.range c.loop-id.ids.items (keys_of c.loop-id.id-iterator) (keys_of c.next.new.self) _ c.in-Some.id.now c.loop-id.invariant.taken first far c.loop-id.invariant.ascending

pub loop-id-preserved-then-range-counter-2 : goal.loop-id-preserved-then-range-counter-2
loop-id-preserved-then-range-counter-2 g c =
    let first = ap keys_of (rest_more deref_pair _ _ _ _ c.in-Some.is c.next.ensures.steps) in
    let same = c.counter.ensures.same in
    let again = c.counter-then-eq.ensures.same in
    let low : c.args.range.first ≤ c.in-Some.id.now.counter = omega arith in
    let high : c.in-Some.id.now.counter ≤ c.args.range.last = omega arith in
    let site : c.args.site ≡ c.in-Some.id.now.site = sym (eqb-true c.site.result c.args.site (sym c.eq.ensures ∙ c.if-eq.true)) ∙ c.site.ensures in
    record {
      taken = taken_more (is_of_range c.args.site c.args.range) c.loop-id.ids.items c.push.new.self.items (keys_of c.loop-id.id-iterator) (keys_of c.next.new.self) _ c.in-Some.id.now
          c.loop-id.invariant.taken first (of_range c.args.site c.args.range c.in-Some.id.now site low high) c.in_ok-push.ensures.items;
      ascending = sorted_rest (keys_of c.loop-id.id-iterator) (keys_of c.next.new.self) c.in-Some.id.now first c.loop-id.invariant.ascending;
    }

pub loop-id-preserved : goal.loop-id-preserved
loop-id-preserved g c =
    let first = ap keys_of (rest_more deref_pair _ _ _ _ c.in-Some.is c.next.ensures.steps) in
    let fails : is_of_range c.args.site c.args.range c.in-Some.id.now ≡ false = elim c.else-eq.branch [
      | else-eq-via-then-eq+else-range-counter-2 w ↦ (
          let again = w.counter-then-eq.ensures.same in
          let less = w.if-range-counter-2.false in
          before c.args.site c.args.range c.in-Some.id.now (omega arith))
      | else-eq-via-else-eq w ↦ elsewhere c.args.site c.args.range c.in-Some.id.now (λ e.
          both_ways _ (sym c.eq.ensures ∙ w.if-eq.false) (eq-eqb c.site.result c.args.site (c.site.ensures ∙ sym e)))
    ] in
    record {
      taken = taken_skip (is_of_range c.args.site c.args.range) c.loop-id.ids.items (keys_of c.loop-id.id-iterator) (keys_of c.next.new.self) _ c.in-Some.id.now c.loop-id.invariant.taken first fails;
      ascending = sorted_rest (keys_of c.loop-id.id-iterator) (keys_of c.next.new.self) c.in-Some.id.now first c.loop-id.invariant.ascending;
    }
