use Rattle.std.proofs.Common.{◌≡◌, IfOk, sym, ap, subst, ◌∙◌}
use Rattle.fed_replica.specs.State.{state_of}
use Rattle.fed_site.specs.Journal.{SaidAs}
use Rattle.fed_site.specs.OwnLine.{OwnLine, own_line_of, told_by}
use Rattle.fed_site.specs.OwnLineView.{read_as}
use Rattle.fed_site.specs.Rosters.{roster_told}
use Rattle.fed_site.specs.Says.{after_own, site_says}
use Rattle.fed_site.specs.Site.{SiteValue}
use Rattle.fed_site.proofs.ReadLines.{told_is}
use Rattle.fed_site.proofs.site.Site.answer.Goals as goal

pub returns-clause-said : goal.returns-clause-said
returns-clause-said c =
    let site = c.args.self.now in
    let line = c.args.line.now in
    let roster : c.get.result.now ≡ site.roster = c.get.ensures ∙ ap (λ (v : SiteValue). v.roster) c.self.view_is in
    let here : c.self.inside.here ≡ site.replica.site = sym c.self.invariant.0 ∙ ap (λ (v : SiteValue). v.replica.site) c.self.view_is in
    let read : read_as c.in_ok-said.said ≡ own_line_of site.roster site.replica.site line = c.in_ok-said.ensures ∙ (λ i. own_line_of (roster i) (here i) line) in
    subst (λ told. IfOk c.do_own.result (λ a. SaidAs site c.do_own.new.self a (roster_told site.roster told) (site_says site.roster (state_of site.replica) line))) (sym (told_is site.roster site.replica.site line))
    (subst (λ (o : OwnLine). IfOk c.do_own.result (λ a. SaidAs site c.do_own.new.self a (roster_told site.roster (told_by o)) (after_own site.roster (state_of site.replica) o))) read c.do_own.ensures.said)
