use Rattle.std.specs.Prelude.{[]}
use Rattle.fed_theory.proofs.NewJobs.{own_job, job_kept, job_there}
use Rattle.fed_theory.proofs.run_laws.new_jobs_are_there.Goals as goal

pub returns-clause-named : goal.returns-clause-named
returns-clause-named c n early site who values held job done = own_job n early [] site who values held job done

pub returns-clause-kept : goal.returns-clause-kept
returns-clause-kept c n early late site who values held job done = job_kept n early late site who values held job done

pub returns-clause-there : goal.returns-clause-there
returns-clause-there c n early late site who values held job few done = job_there n early late site who values held job done few
