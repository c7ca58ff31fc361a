use Rattle.fed_theory.proofs.RetiredLaws.{retired_union}
use Rattle.fed_theory.proofs.SubmitLaws.{read_retired, read_whole}
use Rattle.fed_theory.proofs.set_laws.retired_jobs_stay_unknown.Goals as goal

pub returns-clause-union : goal.returns-clause-union
returns-clause-union c = retired_union

pub returns-clause-unknown : goal.returns-clause-unknown
returns-clause-unknown c = read_retired

pub returns-clause-whole : goal.returns-clause-whole
returns-clause-whole c = read_whole
