use Rattle.std.proofs.Common.{sym}
use Rattle.fed_words.proofs.SiteNames.{site_in-named}
use Rattle.fed_words.proofs.sites.read_site.Goals as goal

pub returns-in-Some : goal.returns-in-Some
returns-in-Some c = sym (site_in-named c.args.malformed c.args.roster.now c.roster_is_lawful.ensures c.args.name.now c.in-Some.site
    (sym c.in-Some.ensures))
