use Rattle.fed_site.proofs.Openings.{new_state}
use Rattle.fed_site.proofs.site.Site.new.Goals as goal

pub returns-clause-state : goal.returns-clause-state
returns-clause-state c = new_state c.new.result c.args.here c.new.ensures.site c.new.ensures.heard c.new.ensures.stands
