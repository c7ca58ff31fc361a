use Rattle.std.proofs.Common.{ap, sym, ◌∙◌, refl}
use Rattle.std.specs.Ordering.{is_ge}
use Rattle.fed_tags.specs.Tags.{pair_cmp}
use Rattle.fed_tags.specs.TagLaws.{pair_total}
use Rattle.fed_tags.proofs.TagLoops.{ascends_more, ascends_not, ascends_all}
use Rattle.fed_tags.proofs.sets.TagSet.is_ascending.Goals as goal

pub returns-then-is_ge : goal.returns-then-is_ge
returns-then-is_ge g c = (
  λ e. cc,
  λ s. absurd (ascends_not (pair_cmp g.T.Ord.cmp) c.args.pairs.now c.loop-i.i c.index-pairs-i.result c.index-pairs-i-in-loop-i.result c.loop-i.auto.i c.loop-i-test.true c.index-pairs-i.is c.index-pairs-i-in-loop-i.is
      (ap is_ge (sym c.cmp.ensures) ∙ sym c.is_ge.ensures ∙ c.if-is_ge.true) s),
)

pub loop-i-preserved : goal.loop-i-preserved
loop-i-preserved g c =
    ascends_more (pair_cmp g.T.Ord.cmp) c.args.pairs.now c.loop-i.i c.index-pairs-i.result c.index-pairs-i-in-loop-i.result c.loop-i.auto.i c.loop-i-test.true c.index-pairs-i.is c.index-pairs-i-in-loop-i.is
    (ap is_ge (sym c.cmp.ensures) ∙ sym c.is_ge.ensures ∙ c.if-is_ge.false) c.loop-i.invariant

pub returns : goal.returns
returns g c = (λ _. ascends_all (pair_cmp g.T.Ord.cmp) (pair_total g.T.Ord.cmp g.met.T.Ord.total) c.args.pairs.now c.loop-i.i c.loop-i-test.false c.loop-i.invariant, λ _. refl)
