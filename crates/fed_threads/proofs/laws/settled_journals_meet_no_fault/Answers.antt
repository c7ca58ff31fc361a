use Rattle.fed_threads.proofs.NoFaults.{no_fault}
use Rattle.fed_threads.proofs.laws.settled_journals_meet_no_fault.Goals as goal

pub returns : goal.returns
returns c = no_fault
