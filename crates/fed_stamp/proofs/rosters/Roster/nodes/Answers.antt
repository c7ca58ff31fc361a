use Rattle.fed_stamp.specs.Roster.{sites_in}
use Rattle.fed_stamp.proofs.RosterLemmas.{site_read, counted_site}
use Rattle.fed_stamp.proofs.rosters.Roster.nodes.Goals as goal

pub returns-in-Some-clause-in_range : goal.returns-in-Some-clause-in_range
returns-in-Some-clause-in_range c =
    let sites = sites_in c.self.inside.sites in
    counted_site sites c.get.result _ c.self.invariant.1 (site_read sites c.get.result c.self.inside.sites _ _ c.self.invariant.0 c.get.ensures.in_range c.in-Some.is)
