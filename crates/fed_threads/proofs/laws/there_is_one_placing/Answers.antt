use Rattle.fed_threads.proofs.OnePlacing.{one_placing, one_settled}
use Rattle.fed_threads.proofs.laws.there_is_one_placing.Goals as goal

pub returns-clause-placing : goal.returns-clause-placing
returns-clause-placing c = one_placing

pub returns-clause-settled : goal.returns-clause-settled
returns-clause-settled c = one_settled
