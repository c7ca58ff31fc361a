use Rattle.std.proofs.Common.{◌≡◌, arith, ap, subst, sym, ◌∙◌}
use Rattle.fed_ranges.specs.Ranges.{has, added, IsCanonical}
use Rattle.fed_ranges.specs.RangeLaws.{added_apart, added_has}
use Rattle.fed_ranges.proofs.ranges.Ranges.add.Goals as goal

pub invariant_of-self : goal.invariant_of-self
invariant_of-self c =
    let was : c.deref.result.now ≡ c.args.self.now = c.deref.ensures.value ∙ c.self.view_is in
    let items : c.in_ok-more.more.items ≡ added c.args.range c.args.self.now = c.in_ok-more.ensures ∙ ap (added c.args.range) was in
    subst IsCanonical (sym items) (added_apart 0 c.args.range c.args.self.now (omega arith) c.requires (subst IsCanonical c.self.view_is c.self.invariant))

pub returns-clause-has : goal.returns-clause-has
returns-clause-has c n =
    let was : c.deref.result.now ≡ c.args.self.now = c.deref.ensures.value ∙ c.self.view_is in
    let items : c.in_ok-more.more.items ≡ added c.args.range c.args.self.now = c.in_ok-more.ensures ∙ ap (added c.args.range) was in
    ap (λ xs. has xs n) items ∙ added_has 0 c.args.range c.args.self.now n c.requires (subst IsCanonical c.self.view_is c.self.invariant)
