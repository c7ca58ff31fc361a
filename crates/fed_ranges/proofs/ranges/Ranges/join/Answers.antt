use Rattle.std.proofs.Common.{ap, sym, subst, ◌∙◌, ◌≡◌}
use Rattle.std.proofs.lemmas.List.{at_drop_all}
use Rattle.fed_ranges.specs.Ranges.{has, joined, IsCanonical}
use Rattle.fed_ranges.specs.RangeLaws.{each_range, joined_has}
use Rattle.fed_ranges.proofs.ranges.Ranges.join.Goals as goal

pub add-requires : goal.add-requires
add-requires c =
    each_range 0 c.deref-range-items.result.now c.loop-range.range-index _ (subst IsCanonical (sym c.deref-range-items.ensures.value) c.other.invariant) c.loop-range-test.true

pub returns-clause-has : goal.returns-clause-has
returns-clause-has c n =
    let is : c.loop-range.union ≡ joined c.args.self.now c.args.other.now =
    sym (at_drop_all (joined c.loop-range.union) c.deref-range-items.result.now c.loop-range.range-index c.loop-range-test.false)
    ∙ c.loop-range.invariant ∙ ap (joined c.args.self.now) (c.deref-range-items.ensures.value ∙ c.other.view_is) in
    ap (λ xs. has xs n) is ∙ joined_has c.args.self.now c.args.other.now 0 n (subst IsCanonical c.self.view_is c.self.invariant) (subst IsCanonical c.other.view_is c.other.invariant)
