use Rattle.fed_replay.proofs.RunMachines.{run_machine}
use Rattle.fed_replay.proofs.laws.machines_of_runs_are_never_refused.Goals as goal

pub returns : goal.returns
returns c = run_machine
