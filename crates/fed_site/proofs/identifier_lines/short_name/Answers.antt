use Rattle.std.proofs.Common.{refl}
use Rattle.fed_site.proofs.ShortNames.{short}
use Rattle.fed_site.proofs.identifier_lines.short_name.Goals as goal

pub returns-clause-short : goal.returns-clause-short
returns-clause-short c = short c.args.roster.now c.args.site _ c.name.result c.roster_is_lawful.ensures refl c.name.ensures
