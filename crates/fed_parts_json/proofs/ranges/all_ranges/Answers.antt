use Rattle.std.proofs.Common.{◌≡◌, Ok, Err, sym, ap, ◌∙◌}
use Rattle.serde_json.specs.View.{view}
use Rattle.fed_json.specs.declared.flaws.Flaw.TheVariants.{Shape, Range}
use Rattle.fed_parts_json.specs.Retirements.{range_of}
use Rattle.fed_json.proofs.ListLaws.{after_none, step_good, step_range, step_shape, end_good, end_bad}
use Rattle.fed_parts_json.proofs.ranges.all_ranges.Goals.{in-Ok+in_ok-push-in-Ok, in-Err-Range}
use Rattle.fed_parts_json.proofs.ranges.all_ranges.Goals as goal

pub loop-value-init : goal.loop-value-init
loop-value-init c = rw c.in_ok-ranges.ensures.items (after_none _)

pub returns-in-Err-Shape : goal.returns-in-Err-Shape
returns-in-Err-Shape c =
    let shape : Err Shape ≡ range_of (view c.value-item.result) = cc (c.read_range.ensures, c.in-Err-Shape.is, c.in-Err-Shape.field-0-is) in
    sym (step_shape range_of c.args.values.now c.loop-value.value-index c.value-item.result c.loop-value.in_range c.loop-value.ranges.items c.loop-value-test.true c.value-item.is shape)
    ∙ c.loop-value.invariant

pub loop-value-preserved : goal.loop-value-preserved
loop-value-preserved c =
    let f = range_of in
    elim c.match-read_range.branch [
      | in-Ok+in_ok-push-in-Ok w ↦
          let read : Ok w.in-Ok.range ≡ f (view c.value-item.result) = sym w.in-Ok.is ∙ c.read_range.ensures in
          rw (w.in_range-is, w.ranges-is, w.in_ok-push-in-Ok.ensures.items)
          (sym (step_good f c.args.values.now c.loop-value.value-index c.value-item.result c.loop-value.in_range c.loop-value.ranges.items w.in-Ok.range c.loop-value-test.true c.value-item.is read) ∙ c.loop-value.invariant)
      | in-Err-Range w ↦
          let read : Err Range ≡ f (view c.value-item.result) = sym (w.in-Err-Range.is ∙ ap (λ e. Err e) w.in-Err-Range.field-0-is) ∙ c.read_range.ensures in
          rw (w.in_range-is)
          (sym (step_range f c.args.values.now c.loop-value.value-index c.value-item.result c.loop-value.in_range c.loop-value.ranges.items c.match-read_range.ranges.items c.loop-value-test.true c.value-item.is read) ∙ c.loop-value.invariant)
    ]

pub returns-then-in_range : goal.returns-then-in_range
returns-then-in_range c =
    end_good range_of c.args.values.now c.loop-value.value-index c.loop-value.in_range c.loop-value.ranges.items _ c.loop-value-test.false c.if-in_range.true c.loop-value.invariant

pub returns-else-in_range : goal.returns-else-in_range
returns-else-in_range c =
    end_bad range_of c.args.values.now c.loop-value.value-index c.loop-value.in_range c.loop-value.ranges.items _ c.loop-value-test.false c.if-in_range.false c.loop-value.invariant
