use Rattle.std.proofs.Common.{◌≡◌, Ok, Err, sym, ap, ◌∙◌}
use Rattle.serde_json.specs.View.{view}
use Rattle.fed_json.specs.declared.flaws.Flaw.TheVariants.{Shape, Range}
use Rattle.fed_json.specs.Values.{pair_of}
use Rattle.fed_json.proofs.ListLaws.{after_none, step_good, step_range, step_shape, end_good, end_bad}
use Rattle.fed_job_json.specs.Stamps.{site_of, stamp_of}
use Rattle.fed_job_json.proofs.live_pairs.all_sites.Goals.{in-Ok+in_ok-push-in-Ok, in-Err-Range}
use Rattle.fed_job_json.proofs.live_pairs.all_sites.Goals as goal

pub loop-value-init : goal.loop-value-init
loop-value-init c = rw c.in_ok-sites.ensures.items (after_none _)

pub returns-in-Err-Shape : goal.returns-in-Err-Shape
returns-in-Err-Shape c =
    let shape : Err Shape ≡ pair_of site_of stamp_of (view c.value-item.result) = cc (c.site.ensures, c.in-Err-Shape.is, c.in-Err-Shape.field-0-is) in
    sym (step_shape (pair_of site_of stamp_of) c.args.values.now c.loop-value.value-index c.value-item.result c.loop-value.in_range c.loop-value.sites.items c.loop-value-test.true c.value-item.is shape)
    ∙ c.loop-value.invariant

pub loop-value-preserved : goal.loop-value-preserved
loop-value-preserved c =
    let f = pair_of site_of stamp_of in
    elim c.match-site.branch [
      | in-Ok+in_ok-push-in-Ok w ↦
          let read : Ok w.in-Ok.site ≡ f (view c.value-item.result) = sym w.in-Ok.is ∙ c.site.ensures in
          rw (w.in_range-is, w.sites-is, w.in_ok-push-in-Ok.ensures.items)
          (sym (step_good f c.args.values.now c.loop-value.value-index c.value-item.result c.loop-value.in_range c.loop-value.sites.items w.in-Ok.site c.loop-value-test.true c.value-item.is read) ∙ c.loop-value.invariant)
      | in-Err-Range w ↦
          let read : Err Range ≡ f (view c.value-item.result) = sym (w.in-Err-Range.is ∙ ap (λ e. Err e) w.in-Err-Range.field-0-is) ∙ c.site.ensures in
          rw (w.in_range-is)
          (sym (step_range f c.args.values.now c.loop-value.value-index c.value-item.result c.loop-value.in_range c.loop-value.sites.items c.match-site.sites.items c.loop-value-test.true c.value-item.is read) ∙ c.loop-value.invariant)
    ]

pub returns-then-in_range : goal.returns-then-in_range
returns-then-in_range c =
    end_good (pair_of site_of stamp_of) c.args.values.now c.loop-value.value-index c.loop-value.in_range c.loop-value.sites.items _ c.loop-value-test.false c.if-in_range.true c.loop-value.invariant

pub returns-else-in_range : goal.returns-else-in_range
returns-else-in_range c =
    end_bad (pair_of site_of stamp_of) c.args.values.now c.loop-value.value-index c.loop-value.in_range c.loop-value.sites.items _ c.loop-value-test.false c.if-in_range.false c.loop-value.invariant
