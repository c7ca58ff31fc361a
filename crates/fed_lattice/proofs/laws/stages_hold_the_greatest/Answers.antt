use Rattle.std.proofs.Common.{sym, subst}
use Rattle.fed_lattice.specs.Stage.{greatest_value, stage_stands_for}
use Rattle.fed_lattice.specs.StageLaws.{stage_stands_for_greatest, stage_from_stands}
use Rattle.fed_lattice.proofs.laws.stages_hold_the_greatest.Goals as goal

pub returns : goal.returns
returns g c = λ x h.
    let cmp = g.T.Ord.cmp in
    let o = g.met.T.Ord.total in (
      λ p. stage_from_stands cmp o g.met.T.Exact.exact x (greatest_value cmp h) h p (stage_stands_for_greatest cmp o h),
      λ e. subst (λ y. stage_stands_for cmp y h) (sym e) (stage_stands_for_greatest cmp o h),
    )
