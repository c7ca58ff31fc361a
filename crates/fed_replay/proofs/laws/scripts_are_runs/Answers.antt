use Rattle.fed_replay.proofs.ScriptRuns.{answer_run}
use Rattle.fed_replay.proofs.laws.scripts_are_runs.Goals as goal

pub returns : goal.returns
returns c = answer_run
