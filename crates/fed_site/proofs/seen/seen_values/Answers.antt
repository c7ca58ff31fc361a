use Rattle.std.proofs.Common.{◌≡◌, ◌+◌, suc, map, sym, ◌∙◌, arith}
use Rattle.serde_json.specs.View.{view}
use Rattle.fed_replica.specs.State.{state_of}
use Rattle.fed_qstat.proofs.NamesBelow.{same_site}
use Rattle.fed_site.specs.Seen.{seen_data}
use Rattle.fed_site.proofs.LookValues.{numbered_more, pushed}
use Rattle.fed_site.proofs.seen.seen_values.Goals as goal

pub loop-number-preserved : goal.loop-number-preserved
loop-number-preserved c =
    let next : c.loop-number.number + 1 ≡ suc c.loop-number.number = omega arith in
    let site : c.unwrap-site.result ≡ c.loop-number.number = same_site c.loop-number.number c.unwrap-site.result
    (omega (arith, c.loop-number-test.true, c.len-number-end.ensures.same, c.len-number-end.ensures.roster.at_most)) (sym c.new.ensures ∙ c.unwrap-site.ensures) in
    numbered_more (seen_data c.args.roster.now (state_of c.args.replica.now)) c.loop-number.number _ c.unwrap-site.result (map view c.loop-number.values.items) _ next site c.loop-number.invariant
    (pushed view c.loop-number.values.items c.push.new.self.items c.in_ok-seen_value.field-0 _ c.in_ok-push.ensures.items c.in_ok-seen_value.ensures)
