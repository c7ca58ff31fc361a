use Rattle.std.proofs.Common.{◌<◌, refl, sym, subst, ◌∙◌}
use Rattle.std.proofs.lemmas.Bool.{true≢false}
use Rattle.std.proofs.lemmas.List.{take_all}
use Rattle.fed_stamp.specs.declared.sites.TheConstants.{SITES}
use Rattle.fed_record.specs.Record.{AreCovered}
use Rattle.fed_record.proofs.CoveredLaws.{covered_item, covered_more}
use Rattle.fed_record.proofs.job_parts.covers_pairs.Goals as goal

pub returns-then-not-covers : goal.returns-then-not-covers
returns-then-not-covers g c = (
  λ e. cc,
  λ all. absurd (true≢false (sym (covered_item c.args.version.now c.args.pairs.now c.loop-pair.pair-index c.pair-item.result c.loop-pair-test.true c.pair-item.is all).1 ∙ sym c.covers.ensures ∙ c.if-not-covers.true)),
)

pub loop-pair-preserved : goal.loop-pair-preserved
loop-pair-preserved g c =
    covered_more c.args.version.now c.args.pairs.now c.loop-pair.pair-index c.pair-item.result c.loop-pair-test.true c.pair-item.is c.loop-pair.invariant
    (subst (λ n. n < SITES) c.site.ensures c.site_is_in_range.ensures, sym c.covers.ensures ∙ c.if-not-covers.false)

pub returns : goal.returns
returns g c = (λ _. subst (AreCovered c.args.version.now) (take_all c.loop-pair.pair-index c.args.pairs.now c.loop-pair-test.false) c.loop-pair.invariant, λ _. refl)
