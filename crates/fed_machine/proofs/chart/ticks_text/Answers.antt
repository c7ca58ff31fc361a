use Rattle.std.proofs.Common.{◌≡◌, ◌+◌, suc, string_bytes, ◌∙◌, refl, arith}
use Rattle.fed_machine.specs.Chart.{text_of_tick}
use Rattle.fed_qstat.proofs.Ranges.{sites_more}
use Rattle.fed_machine.proofs.chart.ticks_text.Goals as goal

pub loop-quarters-preserved : goal.loop-quarters-preserved
loop-quarters-preserved c =
    let next : c.loop-quarters.quarters + 1 ≡ suc c.loop-quarters.quarters = omega arith in
    sites_more (text_of_tick c.args.moment c.args.span) c.loop-quarters.quarters _ c.loop-quarters.quarters (string_bytes c.loop-quarters.text) _ _
    next refl c.loop-quarters.invariant c.in_ok-push_str.ensures.bytes (c.as_str.ensures.value ∙ c.in_ok-tick.ensures)
