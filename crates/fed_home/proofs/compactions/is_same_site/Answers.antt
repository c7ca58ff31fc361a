use Rattle.std.proofs.Common.{◌≡◌, ◌∙◌, ap, sym}
use Rattle.std.proofs.lemmas.Bool.{iff_false}
use Rattle.fed_home.specs.Replay.{Replayed}
use Rattle.fed_site.proofs.RosterLines.{tells_rosters}
use Rattle.fed_home.proofs.compactions.is_same_site.Goals as goal

pub returns-then-eq-clause-same : goal.returns-then-eq-clause-same
returns-then-eq-clause-same c = λ held.
    let rosters : c.args.one.now.roster ≡ c.args.other.now.roster =
    sym c.roster.ensures ∙ (tells_rosters c.roster.result.now c.roster-2.result.now).0 (sym c.eq.ensures ∙ c.if-eq.true) ∙ c.roster-2.ensures in
    let states = c.holds_the_same.ensures.read.0 held in
    (λ i. record { roster = rosters i; state = states i })

pub returns-then-eq-clause-apart : goal.returns-then-eq-clause-apart
returns-then-eq-clause-apart c = λ differ same. iff_false c.holds_the_same.ensures.read differ (ap (λ (r : Replayed). r.state) same)

pub returns-else-eq-clause-apart : goal.returns-else-eq-clause-apart
returns-else-eq-clause-apart c = λ differ same.
    iff_false (tells_rosters c.roster.result.now c.roster-2.result.now) (sym c.eq.ensures ∙ c.if-eq.false)
    (c.roster.ensures ∙ ap (λ (r : Replayed). r.roster) same ∙ sym c.roster-2.ensures)
