use Rattle.fed_site.proofs.HeardLines.{restored}
use Rattle.fed_site.proofs.laws.heard_lines_restore.Goals as goal

pub returns : goal.returns
returns c roster s ops n lawful within is known heard whole = restored roster lawful.at_most s ops within is known heard n whole
