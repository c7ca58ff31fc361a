use Rattle.fed_theory.proofs.SubmitLaws.{submit_of, submitted_by, unretired}
use Rattle.fed_theory.proofs.set_laws.submitted_jobs_have_their_submit.Goals as goal

pub returns : goal.returns
returns c ops job = (λ e. (submit_of ops job e, unretired ops job e), λ p. submitted_by ops job p.0 p.1)
