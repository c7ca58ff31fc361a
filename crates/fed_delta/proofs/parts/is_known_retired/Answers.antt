use Rattle.std.proofs.Common.{refl, sym, ◌∙◌}
use Rattle.std.proofs.lemmas.Bool.{true≢false}
use Rattle.std.proofs.lemmas.Map.Iter.{rest_more}
use Rattle.std.proofs.lemmas.Map.Lookups.{exact_unsigned}
use Rattle.std.specs.Cmp.{nat_cmp_total}
use Rattle.std.specs.Ordering.{nat_cmp}
use Rattle.std.specs.Map.Iter.{deref_pair}
use Rattle.fed_board.specs.Board.{AreKnownRetirements}
use Rattle.fed_delta.proofs.PartLaws.{at_each, each_at, left_more, left_none, left_not}
use Rattle.fed_delta.proofs.parts.is_known_retired.Goals as goal

pub returns-then-not-are_known_retirements : goal.returns-then-not-are_known_retirements
returns-then-not-are_known_retirements c =
    let first = rest_more deref_pair _ _ _ _ c.in-Some.is c.next.ensures.steps in (
      λ e. cc,
      λ all. absurd (true≢false (sym (c.are_known_retirements.ensures.1
          (left_not (AreKnownRetirements c.args.version.now) c.args.retired.now _ _ _ _ c.loop-site.invariant first (each_at (AreKnownRetirements c.args.version.now) nat_cmp nat_cmp_total exact_unsigned c.args.retired.now c.iter-site-items.ensures.well_formed.0 all)))
          ∙ c.if-not-are_known_retirements.true)),
    )

pub loop-site-preserved : goal.loop-site-preserved
loop-site-preserved c =
    let first = rest_more deref_pair _ _ _ _ c.in-Some.is c.next.ensures.steps in
    left_more (AreKnownRetirements c.args.version.now) c.args.retired.now _ _ _ _ c.loop-site.invariant first (c.are_known_retirements.ensures.0 c.if-not-are_known_retirements.false)

pub returns : goal.returns
returns c = (
  λ e. at_each (AreKnownRetirements c.args.version.now) nat_cmp nat_cmp_total exact_unsigned c.args.retired.now (left_none (AreKnownRetirements c.args.version.now) c.args.retired.now _ c.loop-site.invariant c.in-None.ensures.steps.0),
  λ all. refl,
)
