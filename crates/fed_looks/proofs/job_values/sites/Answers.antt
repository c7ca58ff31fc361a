use Rattle.std.proofs.Common.{◌≡◌, ◌+◌, suc, map, sym, ap, ◌∙◌, arith}
use Rattle.std.specs.Prelude.{filter}
use Rattle.std.specs.List.{range_with_len}
use Rattle.serde_json.specs.View.{view}
use Rattle.serde_json.proofs.Views.{view-Array}
use Rattle.fed_record.specs.JobRecord.{job_reads}
use Rattle.fed_model.specs.Letter.{has_site}
use Rattle.fed_json.specs.Values.{list_value}
use Rattle.fed_qstat.proofs.NamesBelow.{same_site}
use Rattle.fed_looks.specs.JobObject.{site_data}
use Rattle.fed_looks.proofs.Sites.{kept_more}
use Rattle.fed_looks.proofs.job_values.sites.Goals as goal

pub loop-number-preserved : goal.loop-number-preserved
loop-number-preserved c =
    let next : c.loop-number.number + 1 ≡ suc c.loop-number.number = omega arith in
    let site : c.unwrap-site.result ≡ c.loop-number.number = same_site c.loop-number.number c.unwrap-site.result (omega (arith, c.loop-number-test.true)) (sym c.new.ensures ∙ c.unwrap-site.ensures) in
    kept_more (site_data c.args.roster.now) (has_site (job_reads c.args.job.now)) c.loop-number.number _ c.unwrap-site.result (map view c.loop-number.values.items) _ next site c.loop-number.invariant c.in_ok-push_site.ensures

pub returns : goal.returns
returns c =
    let whole : c.loop-number.number ≡ 16 = omega arith in
    view-Array _ ∙ ap list_value (c.loop-number.invariant ∙ ap (λ n. map (site_data c.args.roster.now) (filter (has_site (job_reads c.args.job.now)) (range_with_len 0 n))) whole)
