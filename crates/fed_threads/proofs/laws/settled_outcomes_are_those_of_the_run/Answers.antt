use Rattle.fed_threads.proofs.Answered.{settled_answers}
use Rattle.fed_threads.proofs.laws.settled_outcomes_are_those_of_the_run.Goals as goal

pub returns : goal.returns
returns c = settled_answers
