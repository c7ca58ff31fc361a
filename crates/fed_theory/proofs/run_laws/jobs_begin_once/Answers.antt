use Rattle.fed_theory.proofs.Promises.{one_begin, at_one_site}
use Rattle.fed_theory.proofs.run_laws.jobs_begin_once.Goals as goal

pub returns-clause-one : goal.returns-clause-one
returns-clause-one c n events few = one_begin n events few

pub returns-clause-at_one_site : goal.returns-clause-at_one_site
returns-clause-at_one_site c n events few = at_one_site n events few
