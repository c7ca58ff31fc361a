use Rattle.std.specs.Prelude.{not}
use Rattle.std.proofs.Common.{◌≡◌, ◌∙◌, ◌≤◌, ap, sym, true, length, arith, rules}
use Rattle.fed_site.specs.Rosters.{are_same, begins}
use Rattle.fed_site.proofs.RosterLines.{begins_length, rosters_eq}
use Rattle.fed_site.proofs.site.Site.take_roster.Goals as goal

pub returns : goal.returns
returns c =
    let kept : c.ne-kept.result ≡ not (are_same c.self.inside.roster c.in-Some.roster) =
    c.ne-kept.ensures ∙ ap not (rosters_eq c.get-3.result.now c.get-4.result.now) ∙ (λ i. not (are_same (c.get-3.ensures i) (c.get-4.ensures i))) in
    search (rules, kept)

pub invariant_of-self : goal.invariant_of-self
invariant_of-self c =
    let goes : begins c.self.inside.roster c.in-Some.roster ≡ true =
    (λ i. begins (sym c.get.ensures i) (sym c.get-2.ensures i)) ∙ sym c.begins.ensures ∙ c.if-not-begins.false in
    let longer : length c.self.inside.roster ≤ length c.in-Some.roster = begins_length c.self.inside.roster c.in-Some.roster goes in
    let within = c.self.invariant.1 in
    (c.self.invariant.0, omega (arith, within, longer))
