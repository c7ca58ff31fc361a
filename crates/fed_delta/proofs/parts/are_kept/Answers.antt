use Rattle.std.proofs.Common.{refl, sym, ◌∙◌, ◌≡◌, false}
use Rattle.std.proofs.lemmas.Bool.{true≢false}
use Rattle.std.proofs.lemmas.Map.Iter.{rest_more}
use Rattle.std.specs.Map.Iter.{deref_pair}
use Rattle.fed_stamp.specs.Stamp.{StampValue}
use Rattle.fed_lattice.specs.ExactLaws.{exact_stamp}
use Rattle.fed_lattice.specs.Latest.{stamp_cmp}
use Rattle.fed_lattice.specs.LatestLaws.{stamp_total}
use Rattle.fed_ranges.specs.Retired.{RetiredValue, has_retired}
use Rattle.fed_delta.proofs.PartLaws.{at_each, each_at, left_more, left_none, left_not}
use Rattle.fed_delta.proofs.parts.are_kept.Goals as goal

abbrev Kept : {X : Type 0} → RetiredValue → StampValue → X → Type 0
Kept retired id x = has_retired retired id ≡ false

pub returns-then-is_retired : goal.returns-then-is_retired
returns-then-is_retired g c =
    let first = rest_more deref_pair _ _ _ _ c.in-Some.is c.next.ensures.steps in (
      λ e. cc,
      λ all. absurd (true≢false (sym c.if-is_retired.true ∙ c.is_retired.ensures
          ∙ left_not (Kept c.args.retired.now) c.args.table.now _ _ _ _ c.loop-id.invariant first (each_at (Kept c.args.retired.now) stamp_cmp stamp_total exact_stamp c.args.table.now c.iter-id-items.ensures.well_formed.0 all))),
    )

pub loop-id-preserved : goal.loop-id-preserved
loop-id-preserved g c =
    let first = rest_more deref_pair _ _ _ _ c.in-Some.is c.next.ensures.steps in
    left_more (Kept c.args.retired.now) c.args.table.now _ _ _ _ c.loop-id.invariant first (sym c.is_retired.ensures ∙ c.if-is_retired.false)

pub returns : goal.returns
returns g c = (
  λ e. at_each (Kept c.args.retired.now) stamp_cmp stamp_total exact_stamp c.args.table.now (left_none (Kept c.args.retired.now) c.args.table.now _ c.loop-id.invariant c.in-None.ensures.steps.0),
  λ all. refl,
)
