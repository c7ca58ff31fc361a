use Rattle.std.proofs.Common.{◌≡◌, arith, refl}
use Rattle.fed_stamp.proofs.SiteSetLemmas.{agrees_all, set_of_members}
use Rattle.fed_stamp.specs.SiteSet.{set_of}
use Rattle.fed_stamp.proofs.site_sets.SiteSet.new.Goals as goal
use Rattle.fed_stamp.proofs.site_sets.SiteSet.new.Goals.{After-loop-site}

made : (c : After-loop-site) → c.loop-site.members ≡ set_of c.args.sites.now
made c = agrees_all _ _ c.loop-site.site-index c.loop-site.invariant.len (omega arith) c.loop-site.invariant.seen

pub returns-clause-same : goal.returns-clause-same
returns-clause-same c = rw (made c, ← c.is_empty.ensures, c.if-is_empty.false) refl

pub returns-clause-members : goal.returns-clause-members
returns-clause-members c = rw (made c) (set_of_members c.args.sites.now)
