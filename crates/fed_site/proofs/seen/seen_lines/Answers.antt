use Rattle.std.proofs.Common.{◌≡◌, ◌+◌, suc, string_bytes, sym, ◌∙◌, arith}
use Rattle.fed_replica.specs.State.{state_of}
use Rattle.fed_qstat.proofs.NamesBelow.{same_site}
use Rattle.fed_site.specs.Seen.{line_of_seen}
use Rattle.fed_qstat.proofs.Ranges.{sites_more}
use Rattle.fed_site.proofs.seen.seen_lines.Goals as goal

pub loop-number-preserved : goal.loop-number-preserved
loop-number-preserved c =
    let next : c.loop-number.number + 1 ≡ suc c.loop-number.number = omega arith in
    let site : c.unwrap-site.result ≡ c.loop-number.number = same_site c.loop-number.number c.unwrap-site.result
    (omega (arith, c.loop-number-test.true, c.len-number-end.ensures.same, c.len-number-end.ensures.roster.at_most)) (sym c.new.ensures ∙ c.unwrap-site.ensures) in
    sites_more (line_of_seen c.args.roster.now (state_of c.args.replica.now)) c.loop-number.number _ c.unwrap-site.result (string_bytes c.loop-number.text) _ _
    next site c.loop-number.invariant c.in_ok-push_str.ensures.bytes (c.as_str.ensures.value ∙ c.in_ok-line.ensures)
