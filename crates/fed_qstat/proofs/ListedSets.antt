-- Of lawful sets a listing chooses among the jobs that were submitted and are not retired.
use Rattle.std.specs.Prelude.{◌≡◌, ◌↔◌, false}
use Rattle.fed_stamp.specs.Stamp.{StampValue}
use Rattle.fed_lattice.proofs.FilterLaws.{filter-Has}
use Rattle.fed_lattice.specs.History.{History}
use Rattle.fed_lattice.specs.Sets.{Has}
use Rattle.fed_lattice.specs.VersionOf.{version_of}
use Rattle.fed_lattice.proofs.VersionOfLaws.{version_of-covers}
use Rattle.fed_model.specs.Body.{Body, Body.Submit}
use Rattle.fed_model.specs.Letter.{is_submitted}
use Rattle.fed_model.specs.Lawful.{IsLawful}
use Rattle.fed_model.specs.Retired.{is_retired}
use Rattle.fed_model.specs.View.{HasSubmit, view}
use Rattle.fed_theory.proofs.SubmitLaws.{submit_of, submitted_by, unretired}
use Rattle.fed_model.specs.Identifiers.{covered_stamps, jobs_in}
use Rattle.fed_qstat.proofs.BoardJobs.{submitted}
use Rattle.fed_theory.proofs.CoveredStamps.{covered_has}

pub set_listed : (ops : History Body) (job : StampValue) → IsLawful ops → Has (jobs_in (view ops)) job ↔ (HasSubmit ops job × (is_retired ops job ≡ false))
set_listed ops job lawful = (
  λ h. (let s = submitted (view ops) job h in (submit_of ops job s, unretired ops job s)),
  λ h. filter-Has (λ j. is_submitted ((view ops).job j)) (covered_stamps (version_of ops)) job
      (covered_has (version_of ops) job (lawful.sites (job, Submit h.0.0 h.0.1 h.0.2) h.0.3) (version_of-covers ops lawful.sites (job, Submit h.0.0 h.0.1 h.0.2) h.0.3))
      (submitted_by ops job h.0 h.1),
)
