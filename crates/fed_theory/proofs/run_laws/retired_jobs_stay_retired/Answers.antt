use Rattle.fed_theory.proofs.RetiredRuns.{stays_retired, told, retired_ever_after}
use Rattle.fed_theory.proofs.run_laws.retired_jobs_stay_retired.Goals as goal

pub returns-clause-origin : goal.returns-clause-origin
returns-clause-origin c n early between site who first last job reply at within done =
    stays_retired n early between site who first last job reply at within done

pub returns-clause-told : goal.returns-clause-told
returns-clause-told c n early between late site to taker k who first last job reply taken at within done ships takes =
    told n early between site who first last job reply at within done to taker k late taken ships takes

pub returns-clause-ever : goal.returns-clause-ever
returns-clause-ever c n early late site job e = retired_ever_after n early late site job e
