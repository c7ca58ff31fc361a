use Rattle.fed_model.specs.Pairs.{adds_site, removes_site, adds_hold, removes_hold}
use Rattle.fed_theory.proofs.PresenceLaws.{present_where_live}
use Rattle.fed_theory.proofs.job_laws.present_where_live.Goals as goal

pub returns-clause-sites : goal.returns-clause-sites
returns-clause-sites c ops site sites = present_where_live adds_site removes_site ops sites site

pub returns-clause-holds : goal.returns-clause-holds
returns-clause-holds c ops kind sites = present_where_live adds_hold removes_hold ops sites kind
