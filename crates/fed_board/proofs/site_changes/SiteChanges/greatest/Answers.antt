use Rattle.std.proofs.Common.{◌≤◌, All, subst}
use Rattle.fed_board.specs.declared.changes.Change.{Change}
use Rattle.fed_board.specs.Changes.{SiteValue}
use Rattle.fed_board.proofs.ChangeLists.{last_greatest}
use Rattle.fed_board.proofs.site_changes.SiteChanges.greatest.Goals as goal

pub returns-in-Some : goal.returns-in-Some
returns-in-Some c =
    subst (λ (v : SiteValue). All (λ (y : Change). y.counter ≤ c.in-Some.change.now.counter) v.changes) c.self.view_is
    (last_greatest c.self.inside.changes.items c.self.inside.changes.len c.in-Some.change.now c.self.invariant c.self.inside.changes.ok.0 c.in-Some.ensures.lookup)
