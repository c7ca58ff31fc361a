use Rattle.std.proofs.Common.{◌++◌, ◌∙◌, sym, ap, string_bytes}
use Rattle.fed_main.specs.declared.live_runs.SiteReports.{SiteReports}
use Rattle.fed_main.proofs.Threads.{texts_more}
use Rattle.fed_main.proofs.live_runs.answers.Goals as goal

pub loop-site-preserved : goal.loop-site-preserved
loop-site-preserved c =
    c.in_ok-push_str.ensures.bytes
    ∙ ap (λ b. string_bytes c.loop-site.text ++ b) c.as_str.ensures.value
    ∙ ap (λ b. b ++ string_bytes c.site-item.result.asked.text) c.loop-site.invariant
    ∙ sym (texts_more (λ (r : SiteReports). string_bytes r.asked.text) c.args.reports.now c.loop-site.site-index c.site-item.result c.loop-site-test.true c.site-item.is)
