use Rattle.fed_easy.proofs.QueueMembers.{queue_members, queue_ordered}
use Rattle.fed_easy.proofs.laws.queues_hold_the_waiting_jobs.Goals as goal

pub returns-clause-ordered : goal.returns-clause-ordered
returns-clause-ordered c = λ v site capacity. queue_ordered v site capacity

pub returns-clause-members : goal.returns-clause-members
returns-clause-members c = λ v site capacity j. queue_members v site capacity j
