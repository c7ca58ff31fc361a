use Rattle.std.proofs.Common.{◌≡◌, subst, sym, ◌∙◌}
use Rattle.fed_ranges.specs.Ranges.{IsCanonical}
use Rattle.fed_ranges.specs.Retirements.{AreBetween}
use Rattle.fed_ranges.proofs.RangeEnds.{between_parts}
use Rattle.fed_ranges.proofs.ranges.Ranges.is_between.Goals as goal

pub returns : goal.returns
returns c =
    let is : c.deref.result.now ≡ c.args.self.now = c.deref.ensures.value ∙ c.self.view_is in
    let parts = between_parts c.args.end c.args.self.now (subst IsCanonical c.self.view_is c.self.invariant) in (
      λ e. parts.0 (subst (AreBetween c.args.end) is (c.are_between.ensures.0 e)),
      λ p. c.are_between.ensures.1 (subst (AreBetween c.args.end) (sym is) (parts.1 p)),
    )
