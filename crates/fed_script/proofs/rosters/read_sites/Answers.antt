use Rattle.std.proofs.Common.{ap, sym, ◌∙◌, Some, ◌∷◌, []}
use Rattle.std.proofs.lemmas.List.{map-append}
use Rattle.fed_script.proofs.SiteWords.{sites_in-more, sites_in-none}
use Rattle.fed_script.proofs.rosters.read_sites.Goals as goal

pub returns-in_default : goal.returns-in_default
returns-in_default c = sym (sites_in-none (λ word. word.now) c.args.words.now c.loop-word.word-index _ c.loop-word-test.true (sym (rw c.in_default.is at c.read_site.ensures)))

pub loop-word-preserved : goal.loop-word-preserved
loop-word-preserved c =
    rw c.in_ok-push.ensures.items (sites_in-more (λ word. word.now) c.args.words.now c.loop-word.word-index _ _ _ c.loop-word-test.true c.loop-word.invariant (sym (rw c.in-Some.is at c.read_site.ensures))
    ∙ ap Some (sym (map-append (λ s. (s.0.now, s.1)) c.loop-word.sites.items (c.in-Some.site ∷ []))))
