use Rattle.fed_script.proofs.SitesOfLines.{line_sites}
use Rattle.fed_script.proofs.laws.lines_name_sites_of_the_roster.Goals as goal

pub returns : goal.returns
returns c = line_sites
