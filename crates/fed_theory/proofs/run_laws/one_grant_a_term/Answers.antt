use Rattle.fed_theory.proofs.Promises.{one_grant, by_origin}
use Rattle.fed_theory.proofs.run_laws.one_grant_a_term.Goals as goal

pub returns-clause-one : goal.returns-clause-one
returns-clause-one c n events few = one_grant n events few

pub returns-clause-by_origin : goal.returns-clause-by_origin
returns-clause-by_origin c n events few = by_origin n events few
