use Rattle.std.specs.Prelude.{is_none, if◌then◌else◌, Some, None}
use Rattle.std.proofs.Common.{[], ap}
use Rattle.fed_stamp.specs.Roster.{nodes_at}
use Rattle.fed_easy.specs.Machine.{first_fault, running_in}
use Rattle.fed_easy.specs.RosterPlan.{machine_in}
use Rattle.fed_easy.specs.SitePlan.{plan_beside}
use Rattle.fed_easy.proofs.LeftOut.{without_none}
use Rattle.fed_site.proofs.laws.plans_without_no_job_are_plans.Goals as goal

pub returns : goal.returns
returns c = λ roster v site moment.
    ap (λ queue. if is_none (first_fault (nodes_at roster site) (running_in site v)) then Some (plan_beside v site moment (machine_in roster v site) queue) else None)
    (without_none v site (nodes_at roster site) [] (λ j h named. named))
