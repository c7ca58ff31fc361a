use Rattle.fed_theory.proofs.RetiredRuns.{never_begins, never_granted}
use Rattle.fed_theory.proofs.run_laws.retired_jobs_never_begin.Goals as goal

pub returns-clause-begins : goal.returns-clause-begins
returns-clause-begins c n early between site other who asker first last moment job reply again few at within done =
    never_begins n early between site who first last job reply at within done other asker moment again few

pub returns-clause-grants : goal.returns-clause-grants
returns-clause-grants c n early between site other who asker first last to job reply again at within done =
    never_granted n early between site who first last job reply at within done other asker to again
