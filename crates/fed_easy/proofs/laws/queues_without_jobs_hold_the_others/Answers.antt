use Rattle.fed_easy.proofs.LeftOut.{without_members, without_none, without_ordered}
use Rattle.fed_easy.proofs.laws.queues_without_jobs_hold_the_others.Goals as goal

pub returns-clause-ordered : goal.returns-clause-ordered
returns-clause-ordered c = λ v site capacity jobs. without_ordered v site capacity jobs

pub returns-clause-members : goal.returns-clause-members
returns-clause-members c = λ v site capacity jobs j. without_members v site capacity jobs j

pub returns-clause-none : goal.returns-clause-none
returns-clause-none c = λ v site capacity jobs none. without_none v site capacity jobs none
