use Rattle.std.specs.Prelude.{slice_index_or}
use Rattle.std.proofs.Common.{◌≡◌, [], map, string_bytes, sym, ap, ◌∙◌, arith}
use Rattle.fed_qstat.proofs.NamesBelow.{same_site}
use Rattle.fed_site.specs.Rosters.{word_of_site}
use Rattle.fed_site.proofs.LookValues.{listed_more, pushed}
use Rattle.fed_site.proofs.roster_lines.site_words.Goals as goal

pub site_word-requires : goal.site_word-requires
site_word-requires c =
    let site : c.unwrap-site.result ≡ c.loop-number.number = same_site c.loop-number.number c.unwrap-site.result
    (omega (arith, c.loop-number-test.true, c.len-number-end.ensures.same, c.len-number-end.ensures.roster.at_most)) (sym c.new.ensures ∙ c.unwrap-site.ensures) in
    omega (arith, site, c.loop-number-test.true, c.len-number-end.ensures.same)

pub loop-number-preserved : goal.loop-number-preserved
loop-number-preserved c =
    let site : c.unwrap-site.result ≡ c.loop-number.number = same_site c.loop-number.number c.unwrap-site.result
    (omega (arith, c.loop-number-test.true, c.len-number-end.ensures.same, c.len-number-end.ensures.roster.at_most)) (sym c.new.ensures ∙ c.unwrap-site.ensures) in
    listed_more word_of_site c.args.roster.now c.loop-number.number ([], 0) (map string_bytes c.loop-number.words.items) _ (omega (arith, c.loop-number-test.true, c.len-number-end.ensures.same)) c.loop-number.invariant
    (pushed string_bytes c.loop-number.words.items c.push.new.self.items c.in_ok-site_word.field-0 _ c.in_ok-push.ensures.items
    (c.in_ok-site_word.ensures ∙ ap (λ k. word_of_site (slice_index_or c.args.roster.now k ([], 0))) site))
